pub mod Amounts
pub mod Heads
pub mod Lists
pub mod Sweeps
