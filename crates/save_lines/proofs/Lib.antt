-- Laws of one line of a saved text.
pub mod Fields
pub mod Turns
