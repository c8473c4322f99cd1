pub mod Plans
pub mod Made
pub mod Program
pub mod Steps
pub mod Good
pub mod Meaning
