pub mod Next
pub mod Sheets
