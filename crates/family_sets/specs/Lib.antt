-- The sets that a family's rule makes, and what it means that sets meet.
pub mod Rule
pub mod Meeting
