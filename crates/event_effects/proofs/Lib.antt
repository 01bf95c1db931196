-- Laws of effects.
pub mod Effects
