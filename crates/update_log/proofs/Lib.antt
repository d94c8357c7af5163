mod Gathering
mod Keeping
pub mod Logsets
mod Pieces
mod Scanning
