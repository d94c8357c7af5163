pub mod Bringing
pub mod Cloning
pub mod Importing
pub mod Making
pub mod Refusals
pub mod Taking
pub mod Told
