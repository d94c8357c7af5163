pub mod Causes
pub mod Framed
pub mod Memory
pub mod Moved
pub mod Reading
