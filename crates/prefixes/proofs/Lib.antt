pub mod Bits
pub mod Sames
pub mod Bests
