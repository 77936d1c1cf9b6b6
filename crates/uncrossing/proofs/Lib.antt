pub mod Spans
pub mod Fronting
pub mod Written
pub mod Turns
pub mod Sieve
pub mod Moving
