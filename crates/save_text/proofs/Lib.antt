-- Laws of the saved text.
pub mod Lengths
pub mod Longest
pub mod Places
pub mod Arrays
pub mod Facts
pub mod ReadBack
pub mod FirstSpelled
