pub mod Around
pub mod Lasting
pub mod Only
pub mod Reading
pub mod Same
pub mod Saying
pub mod StoreOnce
pub mod Working
