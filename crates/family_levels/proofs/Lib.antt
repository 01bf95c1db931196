-- Laws that `families` cites.
pub mod Accepted
pub mod Bounds
pub mod Equal
pub mod Examples
pub mod Meeting
pub mod Sides
