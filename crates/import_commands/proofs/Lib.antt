pub mod Batches
pub mod Copying
pub mod Ending
pub mod Looking
pub mod NewStores
pub mod Opened
pub mod Shelving
pub mod Telling
