pub mod Limit
pub mod View
pub mod Brought
pub mod Applied
pub mod Started
pub mod Causes
pub mod Moments
pub mod Bounds
