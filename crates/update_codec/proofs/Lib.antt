pub mod Again
mod Versions
mod AgainFields
mod AgainRows
pub mod Loops
pub mod Rising
pub mod Steps
mod TakesFields
mod TakesRows
pub mod TakesLemmas
pub mod FaultSteps
mod StopsFields
pub mod Stops
mod ToldFields
pub mod Told
pub mod Places
pub mod Causes
pub mod FirstVersions
