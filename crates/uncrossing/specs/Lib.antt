pub mod Spans
pub mod Fits
pub mod Fronts
pub mod Meetings
pub mod Sifted
pub mod Prints
