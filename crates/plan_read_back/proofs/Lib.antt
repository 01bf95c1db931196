-- What the player's grammar reads in the lines that the planner prints.
pub mod Numbers
pub mod Lines
pub mod Texts
pub mod Families
