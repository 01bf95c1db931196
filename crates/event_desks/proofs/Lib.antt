-- The code's index of site s is s - 1.
pub mod Rows
