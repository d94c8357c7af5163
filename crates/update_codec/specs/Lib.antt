pub mod Faults
pub mod FirstVersion
pub mod Kept
pub mod Outcome
pub mod Parts
pub mod Reading
pub mod Spelling
pub mod Words
