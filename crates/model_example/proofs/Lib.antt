-- What is shown of the definitions by calculation.
pub mod Example
