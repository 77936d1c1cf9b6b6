pub mod Bands
pub mod Setup
pub mod Any
