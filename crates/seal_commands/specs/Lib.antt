pub mod Inputs
pub mod Unsealing
pub mod Sealing
