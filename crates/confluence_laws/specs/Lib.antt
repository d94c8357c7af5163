pub mod Confluence
pub mod Examples
