-- Laws of a text in parts.
pub mod Long
pub mod Cuts
pub mod Loop
pub mod Examples
