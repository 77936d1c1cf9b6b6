pub mod Accepted
pub mod Mapped
pub mod Nearest
