-- The levels of request 2.1.
pub mod Levels
