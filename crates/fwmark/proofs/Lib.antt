pub mod Bits
pub mod Same
pub mod Selected
