-- What the writing of lines asks of a page, and does to it.
pub mod Puts
