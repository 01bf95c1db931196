-- How many rows stay once one is taken off.
pub mod Without
