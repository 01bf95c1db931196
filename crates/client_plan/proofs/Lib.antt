-- A planned page, whole.
pub mod Whole
