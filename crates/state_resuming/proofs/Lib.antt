-- What a text says, and a player that goes on from it.
pub mod Read
