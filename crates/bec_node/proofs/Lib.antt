pub mod Answered
pub mod Asking
pub mod Drawing
pub mod Ending
pub mod Ends
pub mod Faults
pub mod Home
pub mod Leaving
pub mod Only
pub mod Unsealing
mod Worlds
