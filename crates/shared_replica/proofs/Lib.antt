pub mod Going
mod Growing
pub mod Lists
pub mod Pieces
mod Stepping
mod Turns
pub mod Counting
