pub mod Draws
pub mod Words
pub mod Lines
pub mod Script
