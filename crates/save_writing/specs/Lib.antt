-- The lines of a state, of what the code has.
pub mod Lines
