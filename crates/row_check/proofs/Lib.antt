mod Columns
mod Trees
