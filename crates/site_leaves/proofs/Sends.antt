-- How many messages a leave sends at most, and what it sends for a site outside the set and for a member.
use Prim.Native.Nat.{ℕ, zero, suc, ◌*◌, ◌≤◌, ◌<◌}
use mathlib.Core.Bool.{true, false, not, ◌&&◌}
use mathlib.Core.List.{◌++◌, append-nil}
use mathlib.Core.Path.{◌≡◌}
use native.Mathlib.Omega.{arith}
use lib.Dec.{eqb}
use lib.ListN.{length, length-append}
use Rattle.rig.specs.declared.Desk.{Desk}
use Rattle.model.specs.Desk.{has, held_for, heir_for}
use Rattle.model.specs.Sets.{member}
use Rattle.model.specs.Leave.{hand_on, hand_ons}
use Rattle.site_leaves.specs.Turns.{hand_on_if}
use Rattle.event_effects.proofs.Effects.{cond_short}
use Rattle.basics.proofs.Basics.{by_bool}

hand_on-short : (s j k g : ℕ) → length (hand_on s j k g) ≤ 2
unfolding hand_on
hand_on-short s j k g = by_bool (eqb k 0) (λ e. rw e (omega arith)) (λ e. rw e (omega arith))

-- at most a reply and a release for each site
pub hand_ons-short : (d : Desk) (i : ℕ) → length (hand_ons d i) ≤ 2 * i
unfolding hand_ons
hand_ons-short d zero = omega arith
hand_ons-short d (suc i) =
    let j = suc i in
    let h = hand_ons-short d i in
    let g = cond_short (has d j && not (eqb (held_for d j) 0)) (hand_on d.number j (heir_for d j) (held_for d j)) 2 (hand_on-short d.number j (heir_for d j) (held_for d j)) in
    simp length-append (omega arith)

-- nothing for a site outside the set
pub hand_ons-idle : (d : Desk) (i : ℕ) → i < d.size → member d.members (suc i) ≡ false → hand_ons d (suc i) ≡ hand_ons d i
unfolding hand_ons
hand_ons-idle d i h e = rw (e, append-nil)

-- for a member what its turn sends
pub hand_ons-more :
    (d : Desk) (i : ℕ)
    → member d.members (suc i) ≡ true
    → hand_ons d (suc i) ≡ hand_ons d i ++ hand_on_if d.number (suc i) (heir_for d (suc i)) (held_for d (suc i))
unfolding hand_ons
hand_ons-more d i e = by_bool (eqb (held_for d (suc i)) 0) (λ z. rw (e, z)) (λ z. rw (e, z))
