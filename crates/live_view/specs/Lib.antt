pub mod Calls
pub mod Changes
pub mod Cursors
pub mod Named
pub mod Shown
pub mod Wishes
