-- The test that `all_held` makes of a site.
pub mod Held
