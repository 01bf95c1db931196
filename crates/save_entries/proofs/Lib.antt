-- Laws of the entries of a row as numbers.
pub mod Rows
pub mod Values
pub mod SiteNumbers
