-- How many messages an ask sends.
pub mod Sends
