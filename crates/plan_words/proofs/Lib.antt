-- What commands ask.
pub mod Examples
