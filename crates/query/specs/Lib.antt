pub mod Columns
pub mod Conditions
pub mod Data
pub mod Grammar
pub mod Outcome
pub mod Pieces
pub mod Queries
pub mod Words
