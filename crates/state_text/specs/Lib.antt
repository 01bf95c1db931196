pub mod State
pub mod Whole
