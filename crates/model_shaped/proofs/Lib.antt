-- Laws of a state that stays well shaped.
pub mod Lost
pub mod Rows
pub mod Fine
pub mod Changes
pub mod Arbiters
pub mod Sites
pub mod Deliveries
pub mod Desks
pub mod Events
pub mod Runs
pub mod Numbered
