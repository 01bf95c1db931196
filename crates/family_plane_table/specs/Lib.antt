-- What the constant table of the plane of p = 5 holds.
pub mod Table
