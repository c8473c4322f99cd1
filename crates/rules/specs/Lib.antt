pub mod Accounts
pub mod Offences
pub mod Changes
