pub mod Kinds
pub mod Network
pub mod Lists
