pub mod Code
pub mod Name
