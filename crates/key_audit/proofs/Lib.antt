pub mod Certificates
pub mod Keys
pub mod Least
pub mod Listing
pub mod Noting
pub mod Once
pub mod Messages
pub mod Rising
