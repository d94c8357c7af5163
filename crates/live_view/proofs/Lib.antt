pub mod Differing
pub mod Following
pub mod Refreshing
pub mod Rising
pub mod Those
