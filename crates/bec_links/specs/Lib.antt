pub mod Memory
pub mod Nets
