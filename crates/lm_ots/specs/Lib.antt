pub mod OtsKind
pub mod Joined
pub mod Chain
pub mod Digits
pub mod OneTime
