-- Laws of a part of a text.
pub mod Parts
