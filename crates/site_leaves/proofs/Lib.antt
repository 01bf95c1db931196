-- How many messages a leave sends.
pub mod Sends
