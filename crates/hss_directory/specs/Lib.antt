pub mod Faults
pub mod Values
pub mod Places
pub mod Signing
pub mod Peers
pub mod Lower
pub mod Opening
pub mod Calls
