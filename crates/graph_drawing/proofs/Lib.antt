pub mod Arrived
pub mod Below
pub mod Columns
pub mod DepthFacts
pub mod Greatest
pub mod Ranks
pub mod Rising
pub mod SamePictures
