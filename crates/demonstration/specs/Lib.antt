pub mod Demos
pub mod Sites
