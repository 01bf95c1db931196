-- The test that all members are held, site by site.
use Prim.Native.Nat.{ℕ, suc, ◌<◌}
use mathlib.Core.Bool.{Bool, true, false, not, ◌||◌}
use mathlib.Core.Path.{◌≡◌}
use lib.Dec.{eqb}
use Rattle.basics.specs.Helpers.{all}
use Rattle.basics.proofs.Basics.{by_bool}
use Rattle.rig.specs.declared.Desk.{Desk}
use Rattle.model.specs.Sets.{member}
use Rattle.model.specs.Desk.{has, held_for}

-- site j is held, if it is a member
abbrev pub held_if : Desk → ℕ → Bool
held_if d j = not (has d j) || not (eqb (held_for d j) 0)

-- a site outside the set passes
pub held-idle : (d : Desk) (i : ℕ) → i < d.size → member d.members (suc i) ≡ false → all (held_if d) (suc i) ≡ all (held_if d) i
unfolding all
held-idle d i h e = rw e (by_bool (all (held_if d) i) (λ t. rw t) (λ t. rw t))

-- a member passes if it is held
pub held-member : (d : Desk) (j : ℕ) {r : Bool} → member d.members j ≡ true → r ≡ not (eqb (held_for d j) 0) → held_if d j ≡ r
held-member d j e f = rw (e, f)
