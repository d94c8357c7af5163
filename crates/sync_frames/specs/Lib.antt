pub mod Fed
pub mod Payload
pub mod Reading
pub mod Stream
