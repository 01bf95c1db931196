-- Laws of parts and texts, from what the contracts say.
pub mod Parts
pub mod Texts
