pub mod Alls
pub mod Anys
pub mod Pairs
pub mod Places
pub mod Positions
pub mod Numbers
pub mod Options
pub mod Found
