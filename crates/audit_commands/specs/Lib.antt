pub mod Audits
pub mod Confirming
