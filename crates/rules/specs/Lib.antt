pub mod Accepts
pub mod Outranks
pub mod Auctions
pub mod Candidates
pub mod Openings
pub mod Winners
pub mod Examples
pub mod Printed
