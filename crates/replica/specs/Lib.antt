pub mod Faults
pub mod Holding
pub mod Making
pub mod Opening
pub mod Payload
pub mod Replicas
pub mod Signing
pub mod Told
