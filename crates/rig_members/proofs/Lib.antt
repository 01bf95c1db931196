-- Laws of a set's members as bits, of a walk of them, and of their list.
pub mod Lowest
pub mod Members
pub mod Walk
pub mod Visits
