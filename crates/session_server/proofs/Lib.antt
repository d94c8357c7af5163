mod Accepting
mod Crossing
mod Finishing
mod Gaining
mod Passing
mod Talking
