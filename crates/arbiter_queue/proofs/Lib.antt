-- What a head is.
pub mod Heads
