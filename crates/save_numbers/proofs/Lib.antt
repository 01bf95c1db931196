-- Laws of the lines of a saved text, read.
pub mod Places
pub mod Turns
