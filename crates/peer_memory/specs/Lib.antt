pub mod Payload
pub mod Peers
