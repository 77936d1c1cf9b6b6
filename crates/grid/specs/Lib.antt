pub mod Prices
pub mod Neighbours
pub mod Steps
pub mod Decades
pub mod Setup
