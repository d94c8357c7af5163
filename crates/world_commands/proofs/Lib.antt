mod Doing
mod Doubles
mod Inputs
mod Reaching
mod Telling
