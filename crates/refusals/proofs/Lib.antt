-- No reason has the number 0.
pub mod Refusals
