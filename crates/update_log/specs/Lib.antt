pub mod Log
pub mod Logset
pub mod Reading
