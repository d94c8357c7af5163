pub mod Examples
pub mod Names
pub mod Operations
pub mod Tables
pub mod Values
