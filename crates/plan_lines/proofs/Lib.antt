-- Laws of the printed lines.
pub mod Lines
pub mod Examples
