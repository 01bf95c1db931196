pub mod Kinds
pub mod Stretches
