-- Laws of the printing.
pub mod Lines
pub mod Examples
