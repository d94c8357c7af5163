pub mod Chained
pub mod ChainsLeft
mod Checks
mod Declared
pub mod Deletes
pub mod DemoRows
pub mod Done
pub mod Heads
pub mod Inserts
mod LinesAdd
mod LinesLead
pub mod Planned
pub mod Rows
