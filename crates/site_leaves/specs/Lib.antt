pub mod Needs
pub mod Turns
