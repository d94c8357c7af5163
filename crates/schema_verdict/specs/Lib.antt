pub mod Texts
pub mod Inputs
pub mod Written
pub mod Verdict
pub mod Checks
