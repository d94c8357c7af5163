pub mod Bloom
