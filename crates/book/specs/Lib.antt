pub mod Finding
pub mod Out
pub mod Anywhere
pub mod Making
pub mod Amending
pub mod Opened
pub mod Entering
