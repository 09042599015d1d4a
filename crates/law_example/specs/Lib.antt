pub mod Rules
pub mod Sames
pub mod Kinds
pub mod Kernels
pub mod Changes
