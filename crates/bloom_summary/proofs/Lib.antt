mod SetBits
mod Summaries
