pub mod Trail
pub mod Seen
pub mod Changes
