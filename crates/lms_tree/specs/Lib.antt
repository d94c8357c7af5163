pub mod LmsKind
pub mod Tree
pub mod Signature
pub mod SecretKey
pub mod Leaves
