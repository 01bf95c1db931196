-- Laws that belong to no one function.
pub mod Bounds
pub mod Entries
pub mod Parameters
pub mod Accepted
