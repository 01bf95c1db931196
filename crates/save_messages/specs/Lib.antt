-- A message as numbers, and back.
pub mod Messages
