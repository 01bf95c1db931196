-- What is done without a message, what is done one thing after another, and that nothing is done for a site outside the set.
use Prim.Native.Nat.{ℕ, zero, suc, ◌≤◌, ◌<◌}
use mathlib.Core.Bool.{false}
use mathlib.Core.Path.{◌≡◌, refl, ap, ◌∙◌}
use mathlib.Core.List.{List, [], append-nil}
use native.Mathlib.Omega.{arith}
use lib.ListN.{length, length-append}
use Rattle.rig.specs.declared.Desk.{Desk}
use Rattle.event_effects.specs.declared.Acted.{Acted}
use Rattle.event_effects.specs.Effects.{CarriesOut}
use Rattle.event_effects.proofs.Effects.{sent-none, sent-more, carries-sent}
use Rattle.basics.proofs.Basics.{by_bool}
use Rattle.model.specs.Desk.{Effect, effect}
use Rattle.model.specs.Sets.{member}
use Rattle.model.specs.Site.{failed_set, yielded, must_yield, yielded_if, yielded_up_to, and_then}

-- the desk changes and nothing is sent
pub did-only : {d e : Desk} (n : ℕ) (rows : List (List ℕ)) → d ≡ e → CarriesOut (effect e []) n rows rows (record { desk = d; count = n })
did-only n rows h = rw h (carries-sent sent-none)

-- one effect, and then another on the desk that it left
pub did_then : {e : Effect} (f : Desk → Effect) {n : ℕ} {rows mid after : List (List ℕ)} {a b : Acted} → CarriesOut e n rows mid a → CarriesOut (f a.desk) a.count mid after b → CarriesOut (and_then e (f e.desk)) n rows after b
did_then {e} f {n} {rows} {mid} {after} {a} {b} s t =
    let u = rw s.desk at t in record {
      desk = u.desk;
      appends = sent-more s.appends u.appends;
    }

if-short : (d : Desk) (j : ℕ) → length (yielded_if d j).sent ≤ 1
unfolding yielded_if yielded
if-short d j = by_bool (must_yield d j) (λ e. rw e (omega arith)) (λ e. rw e (omega arith))

-- at most one yield to each site
pub up-to-short : (d : Desk) (i : ℕ) → length (yielded_up_to d i).sent ≤ i
unfolding yielded_up_to
up-to-short d zero = omega arith
up-to-short d (suc i) =
    let h = up-to-short d i in
    let g = if-short (yielded_up_to d i).desk (suc i) in
    simp length-append (omega arith)

-- nothing is done for a site outside the set
if-members : (d : Desk) (j : ℕ) → (yielded_if d j).desk.members ≡ d.members
unfolding yielded_if yielded failed_set
if-members d j = by_bool (must_yield d j) (λ e. rw e) (λ e. rw e)

up-to-members : (d : Desk) (i : ℕ) → (yielded_up_to d i).desk.members ≡ d.members
unfolding yielded_up_to
up-to-members d zero = refl
up-to-members d (suc i) = if-members (yielded_up_to d i).desk (suc i) ∙ up-to-members d i

if-outside : (d : Desk) (j : ℕ) → member d.members j ≡ false → yielded_if d j ≡ effect d []
unfolding yielded_if must_yield
if-outside d j e = rw e

pub up-to-idle : (d : Desk) (i : ℕ) → i < d.size → member d.members (suc i) ≡ false → yielded_up_to (failed_set d) (suc i) ≡ yielded_up_to (failed_set d) i
unfolding yielded_up_to failed_set
up-to-idle d i h e =
    let own = up-to-members (failed_set d) i in
    rw (if-outside (yielded_up_to (failed_set d) i).desk (suc i) (ap (λ s. member s (suc i)) own ∙ e), append-nil)
