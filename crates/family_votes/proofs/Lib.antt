-- Runs of sites, their votes, and that two sets meet.
pub mod Listed
pub mod Runs
pub mod Sums
pub mod Shortest
pub mod Meeting
pub mod Unread
pub mod Examples
