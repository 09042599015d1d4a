pub mod Policy
pub mod Promise
pub mod Asking
pub mod Named
