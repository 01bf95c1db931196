-- Laws that belong to no one function.
pub mod Reading
pub mod Counts
pub mod Turns
pub mod Going
