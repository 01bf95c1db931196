-- Lengths of what stands at the start of a buffer.
pub mod Counts
