pub mod Parted
pub mod Runs
pub mod Kept
