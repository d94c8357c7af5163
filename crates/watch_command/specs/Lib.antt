pub mod Blocks
pub mod Ending
pub mod Records
pub mod Refusals
pub mod Runs
pub mod Steps
pub mod Watching
