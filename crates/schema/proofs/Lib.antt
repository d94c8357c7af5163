pub mod RowKinds
pub mod Soundness
pub mod SteadyTables
