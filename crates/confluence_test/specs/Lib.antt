pub mod Findings
pub mod Plans
pub mod Refusing
pub mod Taking
pub mod Tests
