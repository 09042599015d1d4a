pub mod Branches
pub mod Chained
pub mod Made
pub mod Pruned
pub mod Reached
pub mod Roots
pub mod Table
pub mod Ways
