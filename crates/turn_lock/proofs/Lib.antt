pub mod Prefixes
pub mod Keeps
