pub mod Meetings
pub mod Open
pub mod OpenServing
pub mod Words
