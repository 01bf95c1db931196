-- The codes of the calls, and what holds of the sets by votes.
pub mod Codes
pub mod ByVotes
