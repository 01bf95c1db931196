-- What a command prints.
pub mod Plan
