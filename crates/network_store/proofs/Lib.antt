pub mod Owners
pub mod Entries
pub mod Links
pub mod Sorted
pub mod Owned
pub mod Kinships
pub mod Holders
pub mod Changes
