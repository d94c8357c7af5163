pub mod FirstPart
pub mod Hearings
pub mod KeptFronts
pub mod Places
pub mod ShortRows
pub mod Tables
pub mod Told
