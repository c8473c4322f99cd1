pub mod Orders
pub mod Samples
pub mod Breach
pub mod Verdicts
pub mod Faults
