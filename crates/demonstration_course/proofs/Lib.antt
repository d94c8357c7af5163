pub mod Places
pub mod Permuting
pub mod Courses
pub mod Heads
pub mod Making
pub mod Meeting
pub mod Sizes
