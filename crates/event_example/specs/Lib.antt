-- Small states, and the code that an event on each must get.
pub mod States
pub mod Cases
