pub mod Contents
pub mod Moves
