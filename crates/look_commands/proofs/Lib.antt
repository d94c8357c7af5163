pub mod Answering
pub mod KeyShown
pub mod Refusals
pub mod Sides
