pub mod Answering
pub mod AuditOnce
pub mod Inputs
