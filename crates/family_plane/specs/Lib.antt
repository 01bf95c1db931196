-- The plane of document 01.
pub mod Plane
