pub mod KeyLaws
pub mod SealLaws
