pub mod Rooms
pub mod Rings
pub mod Arrivals
