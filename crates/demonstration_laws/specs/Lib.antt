pub mod Plans
pub mod Chains
pub mod Tables
