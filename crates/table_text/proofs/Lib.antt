pub mod Filled
pub mod ReadNames
