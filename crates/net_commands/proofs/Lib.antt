pub mod Concluding
pub mod Dialling
pub mod Keeping
pub mod Open
pub mod OpenServing
pub mod Remembering
pub mod Sessions
pub mod Sharing
