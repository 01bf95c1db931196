-- Laws that belong to no one function.
pub mod Lines
pub mod Heads
pub mod Start
pub mod Stages
