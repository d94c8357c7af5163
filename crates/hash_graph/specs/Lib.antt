pub mod Answer
pub mod Kept
