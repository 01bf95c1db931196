use Prim.Native.Nat.{◌≤◌, ◌-◌}
use mathlib.Core.Path.{◌≡◌}
use Rattle.model.specs.Sets.{set_of}
use Rattle.family_votes.specs.Votes.{site_from, in_run}
use Rattle.family_votes.proofs.run_set.Given as goal

abbrev pub invariant-loop-k : goal.invariant-loop-k
invariant-loop-k l = (l.k ≤ l.length) × (l.m ≡ site_from l.size l.n l.k) × (l.set ≡ set_of (in_run l.size l.k l.n) l.size)

abbrev pub decreases-loop-k : goal.decreases-loop-k
decreases-loop-k l = l.length - l.k
