mod Asked
mod Lent
mod Limits
mod Named
mod Reasons
mod Steps
mod Taken
