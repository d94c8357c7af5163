pub mod Reading
mod Telling
