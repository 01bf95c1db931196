-- Words that were read one behind the other.
pub mod Words
