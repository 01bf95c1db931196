pub mod Joins
pub mod Lines
