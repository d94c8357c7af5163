pub mod Forms
pub mod Parting
pub mod Seeing
pub mod Sorting
