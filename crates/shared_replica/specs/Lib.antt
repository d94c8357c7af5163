pub mod Acts
pub mod Entries
pub mod Pieces
pub mod Sessions
