-- Laws of a mode and an arbiter as numbers.
pub mod Fields
