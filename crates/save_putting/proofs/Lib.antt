-- Laws of lines put one behind the other.
pub mod Puts
pub mod Askers
