pub mod Soak
pub mod Run
pub mod Causes
pub mod History
