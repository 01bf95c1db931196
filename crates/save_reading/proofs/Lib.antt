pub mod Places
pub mod Arrays
pub mod Turns
pub mod Messages
pub mod Whole
