pub mod Canonical
pub mod Forms
pub mod Grammar
pub mod Recommended
