-- Laws of the messages that lose their numbers, and of the events and runs of the version before.
pub mod Lost
pub mod Deliveries
pub mod Shapes
pub mod Events
pub mod Runs
