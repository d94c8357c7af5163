pub mod Worlds
pub mod Acts
pub mod Histories
pub mod Calls
