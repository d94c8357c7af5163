pub mod Inserts
pub mod Marks
pub mod Tried
