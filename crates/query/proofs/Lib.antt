pub mod Known
pub mod Placing
pub mod Saying
pub mod Tables
pub mod Unique
