-- What the arbiter's calls need of their caller.
pub mod Needs
