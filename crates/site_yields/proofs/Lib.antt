-- Laws of what is done on a desk.
pub mod Does
