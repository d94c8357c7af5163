mod Bounds
mod Doing
mod Either
mod Goings
mod Lists
mod Newest
mod Listing
mod Parting
mod Same
pub mod Singles
mod Sight
mod Splits
mod Wanted
