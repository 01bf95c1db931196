use Prim.Native.Nat.{◌≤◌, ◌-◌}
use mathlib.Core.Path.{◌≡◌}
use Rattle.basics.specs.Helpers.{lowest}
use Rattle.family_votes.specs.Votes.{site_from, taken, exceeds_half}
use Rattle.family_votes.proofs.run_length.Given as goal

abbrev pub invariant-loop-k : goal.invariant-loop-k
invariant-loop-k l = (l.k ≤ l.size) × (l.m ≡ site_from l.size l.n l.k) × (l.taken ≡ taken l.size l.votes l.n l.k) × (lowest (exceeds_half l.size l.votes l.n) l.k ≡ 0)

abbrev pub decreases-loop-k : goal.decreases-loop-k
decreases-loop-k l = l.size - l.k
