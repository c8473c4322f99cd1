pub mod Fronts
pub mod Records
pub mod Roomy
pub mod Threads
