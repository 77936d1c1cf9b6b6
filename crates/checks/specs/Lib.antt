pub mod Ground
pub mod Brought
