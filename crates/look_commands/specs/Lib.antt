pub mod Bundles
pub mod Differences
pub mod Ending
pub mod Keys
pub mod Looks
pub mod Queries
pub mod Telling
pub mod Texts
