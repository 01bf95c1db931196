-- The codes of the cases, by calculation.
pub mod Codes
