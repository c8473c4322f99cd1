pub mod Amounts
pub mod Entries
