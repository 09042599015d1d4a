pub mod Spots
pub mod Sorted
pub mod Search
pub mod Index
