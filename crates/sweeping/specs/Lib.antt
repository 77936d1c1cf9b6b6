pub mod Steps
pub mod Beside
pub mod Releases
