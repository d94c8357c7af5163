pub mod Below
pub mod Chains
pub mod Clocked
pub mod Kept
pub mod Named
pub mod Numbered
pub mod Since
pub mod Walks
