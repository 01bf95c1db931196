-- A mode and an arbiter as numbers, and back.
pub mod Fields
pub mod Values
