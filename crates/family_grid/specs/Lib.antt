-- The grid of document 01.
pub mod Grid
