-- Laws that several proofs of this crate cite.
pub mod Accepted
pub mod Parameters
pub mod Steps
pub mod Locations
