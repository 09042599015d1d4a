pub mod Ranges
pub mod Stored
pub mod Owners
pub mod RankIndex
pub mod Store
pub mod Kin
pub mod Holders
