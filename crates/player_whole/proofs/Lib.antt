-- Laws of a whole text.
pub mod Whole
