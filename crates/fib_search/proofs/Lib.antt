pub mod Bits
pub mod Down
pub mod Going
pub mod Views
pub mod Ways
