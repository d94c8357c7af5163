pub mod Columns
pub mod Grammar
pub mod Machine
pub mod Numbers
pub mod Places
pub mod Views
pub mod Words
