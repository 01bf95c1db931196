-- Document 01 over tables that are functions, one arbiter at a time, and demand 3 as a statement. The rules have the names that they
-- have in the crate `model`, but for a release with an heir, which is `on_hand_over` here.
pub mod Ask
pub mod Message
pub mod Setting
pub mod Local
pub mod Arbiter
pub mod Site
pub mod System
pub mod Rig
pub mod Claim
