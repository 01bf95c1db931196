-- Laws of a part that is read line by line.
pub mod Turns
