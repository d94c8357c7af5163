mod Completeness
mod Passing
mod Places
mod Soundness
mod Whole
