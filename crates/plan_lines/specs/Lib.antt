-- The lines that a plan prints.
pub mod Lines
