pub mod Decimal
pub mod Wrote
pub mod Same
