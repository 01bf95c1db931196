-- Laws that belong to no one function, and what a caller with all five tables needs.
pub mod Sites
