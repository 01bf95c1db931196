-- Laws of a message as numbers.
pub mod Messages
