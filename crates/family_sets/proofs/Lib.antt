-- Laws of sets that are made of a test, and what setup says of sets that meet.
pub mod Bounds
pub mod Members
pub mod Meeting
pub mod Rule
