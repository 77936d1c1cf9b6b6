pub mod Orders
pub mod Numbers
pub mod Desks
pub mod Lines
pub mod Texts
