pub mod Closed
pub mod Heads
pub mod Ids
