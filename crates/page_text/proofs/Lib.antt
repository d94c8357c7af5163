mod Listed
mod Named
mod Unmarked
