pub mod Fronts
pub mod Refused
pub mod Whole
