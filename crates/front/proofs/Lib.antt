mod Asked
mod Bringing
mod Ending
