pub mod Handing
pub mod Made
pub mod Making
pub mod OnceOpen
pub mod Putting
pub mod Readings
pub mod Signing
pub mod Working
