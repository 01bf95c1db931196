-- The votes of request 2.5.
pub mod Votes
