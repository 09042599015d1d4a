pub mod InTurn
pub mod Short
