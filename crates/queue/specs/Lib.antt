pub mod Places
pub mod Lent
