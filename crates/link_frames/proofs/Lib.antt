pub mod Checking
pub mod Coming
pub mod Having
pub mod Pieces
pub mod Sentences
