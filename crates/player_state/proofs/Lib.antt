-- Laws of the player's own state.
pub mod First
