pub mod Showing
pub mod Acts
pub mod Keeping
pub mod Cutting
pub mod Taking
pub mod Talking
pub mod Carried
pub mod Fed
pub mod Starting
pub mod Restarting
pub mod Replaced
pub mod Started
pub mod Made
pub mod Goes
pub mod Reported
pub mod Drawn
mod Entries
