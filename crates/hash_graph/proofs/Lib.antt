pub mod KeptLemmas
pub mod Least
