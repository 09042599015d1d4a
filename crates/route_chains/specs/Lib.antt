pub mod Chains
pub mod Found
pub mod Kept
pub mod Links
pub mod Places
