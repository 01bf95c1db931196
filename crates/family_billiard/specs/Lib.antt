-- The billiard of document 01.
pub mod Billiard
