-- One file for each rule: the rule keeps the invariant of one arbiter.
pub mod Yielded
pub mod Fail
pub mod Inquire
pub mod Transfer
pub mod Entered
pub mod Reply
pub mod Ask
pub mod Leave
pub mod Granted
pub mod Returned
pub mod Release
pub mod Yield
pub mod HandOver
pub mod Request
