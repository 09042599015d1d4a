pub mod Ranks
pub mod Held
pub mod Preferred
pub mod Entries
