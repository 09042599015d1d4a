pub mod Padded
pub mod SameCode
