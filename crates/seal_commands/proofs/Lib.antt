pub mod Home
pub mod WholeInput
