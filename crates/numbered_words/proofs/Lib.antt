pub mod Mixing
pub mod Drawn
