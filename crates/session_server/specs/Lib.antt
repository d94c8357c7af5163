pub mod Accepting
pub mod Recalling
pub mod Serving
pub mod Sessions
pub mod Talks
