-- Laws that `families` cites.
pub mod Accepted
pub mod Parameters
