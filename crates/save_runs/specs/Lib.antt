pub mod Breaks
pub mod Update
