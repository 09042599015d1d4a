pub mod Asked
pub mod Touched
pub mod Shapes
pub mod PartOf
pub mod Planned
