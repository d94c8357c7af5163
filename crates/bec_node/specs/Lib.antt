pub mod Beside
pub mod Families
pub mod Own
pub mod Run
pub mod RunAlone
