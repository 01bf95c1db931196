-- The numbers behind a family's name.
pub mod Given
