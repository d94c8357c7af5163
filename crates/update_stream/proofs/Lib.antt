pub mod Firsts
pub mod Good
pub mod HasRead
pub mod Once
pub mod Taken
