mod Lines
mod Numerals
mod Tables
mod Texts
mod Unique
mod Writing
