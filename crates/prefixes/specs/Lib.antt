pub mod Addr
pub mod Prefix
pub mod Route
pub mod Best
