-- Laws of the lines of a state.
pub mod Each
pub mod State
