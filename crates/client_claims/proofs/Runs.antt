-- What demand 3 of a state says of its holders, and what holds of its first message.
use Prim.Native.Nat.{ℕ, ◌≤◌}
use mathlib.Core.Path.{◌≡◌}
use mathlib.Core.Logic.{◌≢◌}
use mathlib.Core.Bool.{true, not}
use mathlib.Core.List.{List, ◌∷◌}
use native.Mathlib.Omega.{arith}
use lib.Dec.{eqb, leb}
use borrow.Author.Tests.{eq-eqb, ne_eqb, leb-true}
use Rattle.basics.proofs.Basics.{and_split, not-of, count-unique}
use Rattle.rig.specs.declared.Message.{Message}
use Rattle.rig.specs.Messages.{REPLY}
use Rattle.model.specs.State.{Tables, Stored, in_range, held_of, desk_of}
use Rattle.model.specs.Site.{takes}
use Rattle.model.specs.Always.{fits_rule, all_fit}
use Rattle.model.specs.Run.{held_at, places, Sound}
use Rattle.client_claims.specs.Claims.{IsSite}

site : (n k : ℕ) → in_range n k ≡ true → (1 ≤ k) × (k ≤ n)
site n k h = let a = and_split (leb 1 k) (leb k n) h in (leb-true 1 k a.0, leb-true k n a.1)

pub one-holder : (s : Stored) → Sound s → (j k l : ℕ) → IsSite s j → IsSite s k → IsSite s l → held_of s.tables k j ≢ 0 → held_of s.tables l j ≢ 0 → k ≡ l
unfolding places held_at
one-holder s d j k l h a b e g =
    let n = s.tables.rig.size in
    let p = site n j h in
    let one = d.one_place j p.0 p.1 in
    let x = site n k a in
    let y = site n l b in
    count-unique (λ i. not (eqb (held_of s.tables i j) 0)) n k l (omega arith) x.0 x.1 (not-of _ (ne_eqb _ 0 e)) y.0 y.1 (not-of _ (ne_eqb _ 0 g))

pub reply-fits : (t : Tables) (m : Message) (ms : List Message) → all_fit t (m ∷ ms) ≡ true → m.kind ≡ REPLY → takes (desk_of t m.to) m.about ≡ true
unfolding all_fit fits_rule
reply-fits t m ms fit e = rw (eq-eqb m.kind REPLY e) at (and_split (fits_rule t m) (all_fit t ms) fit).0
