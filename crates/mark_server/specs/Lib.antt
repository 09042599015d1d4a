pub mod Users
pub mod Access
pub mod Fields
pub mod Marks
pub mod Sockets
