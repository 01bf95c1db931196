-- What the calls that generate a family answer.
pub mod Filling
pub mod Made
pub mod ByVotes
