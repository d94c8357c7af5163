pub mod Cells
pub mod Marks
pub mod Naming
pub mod Pages
pub mod Parts
pub mod Statuses
