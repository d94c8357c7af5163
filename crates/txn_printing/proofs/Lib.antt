pub mod Bytes
mod Lines
mod Named
pub mod Values
pub mod Words
