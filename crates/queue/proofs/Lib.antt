pub mod Firsts
pub mod Shifts
pub mod Ordered
