-- The proof of demand 3. Read Invariant first; then, for one arbiter: Kept (each rule keeps the invariant) and Clauses (what it says of
-- the tables); then, for the rig: RigInvariant, RigKept and Demand3.
pub mod Asks
pub mod Invariant
pub mod Sending
pub mod Fitting
pub mod Owing
pub mod Lost
pub mod Head
pub mod Seen
pub mod Kept
pub mod EveryMessage
pub mod Clauses
pub mod ClausesHold
pub mod NotStuck
pub mod OneRow
pub mod RigMessages
pub mod RigInvariant
pub mod RigKept
pub mod Demand3
pub mod Numbers
pub mod Named
pub mod Later
