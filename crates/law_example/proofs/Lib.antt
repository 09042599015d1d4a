pub mod Histories
pub mod Changing
pub mod TwoTables
