-- One turn over the rows of a failed site.
pub mod Turn
