mod Behind
mod Drafts
mod Fronts
mod Numbers
mod Steps
pub mod Ancestors
pub mod Arriving
pub mod Places
