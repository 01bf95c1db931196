-- How many messages an ask sends at most, and that it sends none to a site outside the set.
use Prim.Native.Nat.{ℕ, zero, suc, ◌≤◌, ◌<◌}
use mathlib.Core.Bool.{false}
use mathlib.Core.List.{[], ◌∷◌, append-nil}
use mathlib.Core.Path.{◌≡◌}
use native.Mathlib.Omega.{arith}
use lib.ListN.{length, length-append}
use Rattle.rig.specs.declared.Desk.{Desk}
use Rattle.rig.specs.Messages.{request}
use Rattle.model.specs.Desk.{has}
use Rattle.model.specs.Sets.{member}
use Rattle.model.specs.Ask.{requests}
use Rattle.event_effects.proofs.Effects.{cond_short}

-- at most one request to each site
pub requests-short : (d : Desk) (seq i : ℕ) → length (requests d seq i) ≤ i
unfolding requests
requests-short d seq zero = omega arith
requests-short d seq (suc i) =
    let h = requests-short d seq i in
    let g = cond_short (has d (suc i)) (request d.number (suc i) seq ∷ []) 1 (omega arith) in
    simp length-append (omega arith)

-- a site outside the set is sent none
pub requests-idle : (d : Desk) (seq i : ℕ) → i < d.size → member d.members (suc i) ≡ false → requests d seq (suc i) ≡ requests d seq i
unfolding requests
requests-idle d seq i h e = rw (e, append-nil)
