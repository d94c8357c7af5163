mod Blocks
pub mod ChainLaws
pub mod JoinedLaws
mod KindLaws
pub mod OneTimeLaws
