-- What the player makes of a printed family.
pub mod Ready
pub mod ReadBack
