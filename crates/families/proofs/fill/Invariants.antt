use Prim.Native.Nat.{ℕ, ◌≤◌}
use mathlib.Core.Path.{◌≡◌}
use mathlib.Core.Bool.{Bool}
use lib.ListN.{length, take}
use Rattle.rig.specs.Limits.{site_limit}
use Rattle.family_sets.specs.Rule.{sets_up_to}
use Rattle.families.specs.Filling.{AnswersSets}
use Rattle.families.proofs.fill.Given as goal

abbrev pub invariant-loop-i : goal.invariant-loop-i
invariant-loop-i g l =
    (l.i ≤ site_limit)
    × (length l.sets ≡ site_limit)
    × ((takes : ℕ → ℕ → Bool) (size : ℕ) → AnswersSets (goal.F-post g l.set_of) takes size → take l.i l.sets ≡ sets_up_to takes size l.i)
