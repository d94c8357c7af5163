mod Fronts
mod Numbers
mod Onward
mod Parting
mod Saying
mod Unique
