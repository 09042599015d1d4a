pub mod Numerals
pub mod Appending
pub mod Written
pub mod Spelled
