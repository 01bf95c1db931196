-- The limits of document 01, its messages, and what a refused event answers.
pub mod Limits
pub mod Messages
pub mod Answers
