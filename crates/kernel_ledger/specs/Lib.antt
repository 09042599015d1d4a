pub mod Kept
pub mod Room
pub mod Seen
pub mod Tables
