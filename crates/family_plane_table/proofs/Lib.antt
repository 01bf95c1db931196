-- Reading the constant table.
pub mod Constant
