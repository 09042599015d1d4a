pub mod Grammar
pub mod Vocabulary
pub mod Kinds
pub mod Texts
pub mod Slots
