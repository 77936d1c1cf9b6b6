pub mod Accounts
pub mod Runs
pub mod Laws
pub mod Orderly
pub mod Made
