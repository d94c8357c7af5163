pub mod Checking
pub mod Course
pub mod Hearing
pub mod Listening
pub mod Saying
