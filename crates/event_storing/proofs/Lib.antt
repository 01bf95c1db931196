-- Laws that belong to no one function.
pub mod Leaving
pub mod Carried
