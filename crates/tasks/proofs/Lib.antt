pub mod Pushed
pub mod Crews
pub mod Fronts
