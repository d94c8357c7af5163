pub mod Doubles
pub mod Entries
pub mod Pairs
pub mod Walk
