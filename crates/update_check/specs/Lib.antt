pub mod Causes
pub mod Holding
pub mod Members
pub mod Signed
pub mod Words
