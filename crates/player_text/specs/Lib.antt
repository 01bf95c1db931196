-- Document 01, "The player", and what the calls promise.
pub mod Player
pub mod Calls
