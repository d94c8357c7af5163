mod Batches
mod Grown
