pub mod Bytes
pub mod WordLemmas
pub mod Places
pub mod Fronts
pub mod OneForm
pub mod OneLine
pub mod Farthest
pub mod Neighbours
pub mod LineOutcomes
pub mod OneColumn
pub mod Joined
pub mod Sayable
pub mod Steps
pub mod PrintedLines
mod UsersParts
