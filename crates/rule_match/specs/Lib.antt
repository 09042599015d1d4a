pub mod Packet
pub mod Rule
pub mod Verdict
