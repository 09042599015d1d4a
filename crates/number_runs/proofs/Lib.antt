pub mod Lists
pub mod Heads
pub mod Flat
pub mod Edits
