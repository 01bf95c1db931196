-- Laws that belong to no one function.
pub mod Gap
pub mod Zeros
