pub mod Beating
pub mod Reaching
pub mod Choosing
pub mod Opened
pub mod Tabled
