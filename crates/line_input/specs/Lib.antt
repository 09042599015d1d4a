pub mod Lines
pub mod Looks
pub mod Steps
pub mod Cut
