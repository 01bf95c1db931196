-- The text of a family that was generated.
pub mod Made
