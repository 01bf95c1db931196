-- The entries of a row as numbers, and back.
pub mod Entries
