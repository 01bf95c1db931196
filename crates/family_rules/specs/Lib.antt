-- The four families of request sets that have parameters.
pub mod Family
pub mod Text
