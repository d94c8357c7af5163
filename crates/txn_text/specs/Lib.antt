pub mod Operations
pub mod Outcome
pub mod Transactions
pub mod Values
pub mod Words
