pub mod Answers
pub mod Demos
pub mod Lines
pub mod Running
pub mod Shown
