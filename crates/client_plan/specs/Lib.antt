-- The whole page of a planned grid.
pub mod Whole
