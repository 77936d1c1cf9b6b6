pub mod Rows
pub mod Setup
pub mod Any
pub mod Ladder
