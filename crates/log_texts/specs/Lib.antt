pub mod Differing
pub mod Digits
pub mod Entries
pub mod Finding
pub mod Json
pub mod Lines
pub mod Logs
