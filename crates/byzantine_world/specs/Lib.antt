pub mod Codes
pub mod Standing
pub mod Events
pub mod Sessions
pub mod Taking
pub mod Begun
pub mod Shown
