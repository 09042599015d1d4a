pub mod Disjoint
pub mod Same
pub mod Shared
pub mod RankedLists
