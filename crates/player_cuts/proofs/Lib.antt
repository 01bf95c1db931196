-- Laws of a line that is joined byte by byte.
pub mod Joining
