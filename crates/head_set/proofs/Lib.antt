pub mod HeadSteps
pub mod Keeping
pub mod SameSets
pub mod Spanned
pub mod States
