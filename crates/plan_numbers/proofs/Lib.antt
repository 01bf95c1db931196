-- Laws of a command's numbers.
pub mod Numbers
pub mod Words
pub mod Examples
