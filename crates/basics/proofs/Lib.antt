-- Laws of tests, tables that are functions, counts, lists and small numbers.
pub mod Basics
pub mod Lists
pub mod Numbers
pub mod Tests
pub mod Walks
