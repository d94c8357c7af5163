pub mod Checks
pub mod Columns
pub mod Data
pub mod Least
pub mod Numbers
pub mod Rows
pub mod Samples
pub mod Sound
