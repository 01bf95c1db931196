-- A walk of a set's members.
pub mod Walk
