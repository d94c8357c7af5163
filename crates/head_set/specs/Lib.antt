pub mod Grown
pub mod Kept
pub mod Present
pub mod Spans
