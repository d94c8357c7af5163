pub mod Headings
pub mod Lines
pub mod Operations
pub mod Outcome
pub mod Scripts
pub mod Words
