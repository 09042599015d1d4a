pub mod Forms
pub mod View
pub mod Refused
pub mod App
pub mod Read
