pub mod Answers
pub mod Counts
pub mod Invariants
pub mod Nodes
pub mod Tables
pub mod Verdicts
pub mod Visible
