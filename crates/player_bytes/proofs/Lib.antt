-- Laws of digits, and of bytes stored on a page.
pub mod Digits
pub mod Stores
pub mod Same
pub mod ByBytes
