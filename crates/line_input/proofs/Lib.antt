pub mod Looked
pub mod MetLines
