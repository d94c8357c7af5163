pub mod Stream
pub mod Faults
pub mod Steps
pub mod Told
