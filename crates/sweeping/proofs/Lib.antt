pub mod Choosing
pub mod Turns
pub mod Following
pub mod Joins
pub mod Settling
pub mod Opposites
pub mod Releasings
