pub mod Arrivals
pub mod Grown
pub mod Histories
pub mod Kept
