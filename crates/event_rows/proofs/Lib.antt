-- Laws that belong to no one function.
pub mod Ready
pub mod Stepping
