-- One site's desk and its rows.
pub mod Parts
