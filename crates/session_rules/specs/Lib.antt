pub mod Burst
pub mod Commit
pub mod Course
pub mod Laws
pub mod Pair
pub mod State
pub mod Steps
