pub mod Causing
pub mod Histories
pub mod Listing
