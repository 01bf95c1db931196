-- What the words of a command ask.
pub mod Words
