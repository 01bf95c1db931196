-- The version before request 2.3, and how its runs are runs of this version.
pub mod Rules
pub mod Claims
