pub mod Csv
