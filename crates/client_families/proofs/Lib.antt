pub mod Made
pub mod Nine
