mod InOrder
pub mod Along
pub mod Changed
pub mod Edits
pub mod Entries
pub mod Nexts
pub mod Opened
pub mod Standing
