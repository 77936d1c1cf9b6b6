pub mod Multiples
pub mod Runs
pub mod Searches
