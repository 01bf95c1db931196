-- Laws that several proofs of this crate cite.
pub mod Accepted
pub mod Bounds
pub mod Parameters
