pub mod Checksum
pub mod Comparisons
pub mod Kinds
pub mod Meaning
pub mod Sides
pub mod Trees
