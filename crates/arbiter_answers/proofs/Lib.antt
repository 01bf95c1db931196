-- How many messages go to a former head.
pub mod Former
