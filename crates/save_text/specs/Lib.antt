pub mod Text
pub mod Reading
pub mod Calls
pub mod Claims
