pub mod Passing
pub mod Lawfulness
