pub mod Same
pub mod Sizes
pub mod Breaks
pub mod Update
