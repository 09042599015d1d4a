pub mod Carrying
pub mod Causing
pub mod Policed
pub mod Bounding
pub mod Forming
pub mod Once
pub mod Bringing
