pub mod Blank
pub mod Trying
pub mod Limits
pub mod Deciding
