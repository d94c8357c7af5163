pub mod Boxes
pub mod Depths
pub mod Dot
pub mod Labels
pub mod Pictures
pub mod Svg
pub mod Told
pub mod Words
