-- A set's entries and its sites, as the code goes through them.
use Prim.Native.Nat.{ℕ, zero, suc, ◌+◌, ◌-◌, ◌≤◌, ◌<◌}
use Rattle.std.specs.Bool.{MatchBool}
use Rattle.std.specs.List.{AllWithin, HoldsAt, range_with_len}
use Rattle.std.proofs.lemmas.List.FromFn.{length-range_with_len, get_or-range_with_len}
use mathlib.Core.Path.{◌≡◌, sym, ◌∙◌}
use mathlib.Core.Bool.{Bool, true, false}
use native.Mathlib.Numerals.{add-one}
use native.Mathlib.Omega.{arith}
use lib.Dec.{eqb}
use lib.ListN.{length, get_or}
use borrow.Author.Tests.{eq-eqb, ne_eqb}
use Rattle.basics.specs.Helpers.{any}
use Rattle.basics.proofs.Basics.{any_of, any_none}
use Rattle.model.specs.Sets.{set_of}
use Rattle.rig_members.specs.Walk.{with_member}

-- one of the first w entries is m, as `any` finds it among the indices
abbrev pub Found : (ℕ → ℕ) → ℕ → ℕ → Bool → Type 0
Found entry m w r =
    let all = range_with_len 0 w in
    MatchBool r ((k : ℕ) × (k < length all) × HoldsAt (λ k. m ≡ entry (k + 1)) all k) (AllWithin (λ k. m ≡ entry (k + 1) → ⊥) all 0 (length all))

pub found-any : (entry : ℕ → ℕ) (m w : ℕ) (r : Bool) → Found entry m w r → r ≡ any (λ k. eqb m (entry k)) w
found-any entry m w true (k, l, h) =
    let n = length-range_with_len 0 w in
    let e : get_or (range_with_len 0 w) k 0 ≡ k = omega (arith, get_or-range_with_len 0 w k 0 (omega arith)) in
    sym (any_of (λ k. eqb m (entry k)) w (k + 1) (omega arith) (omega arith) (eq-eqb m (entry (k + 1)) (rw e at (h 0))))
found-any entry m w false h = sym (any_none (λ k. eqb m (entry k)) w none)
  where
    none : (k : ℕ) → 1 ≤ k → k ≤ w → eqb m (entry k) ≡ false
    none zero a b = absurd (omega arith)
    none (suc i) a b =
        let e : get_or (range_with_len 0 w) i 0 ≡ i = omega (arith, get_or-range_with_len 0 w i 0 b) in
        let n = length-range_with_len 0 w in
        ne_eqb m (entry (suc i)) (rw add-one at (rw e at (h i 0 (omega arith) (omega arith))))

-- a site that is a member, and one that is none
module _ (p : ℕ → Bool) (m : ℕ) {set : ℕ} (e : set ≡ set_of p m) where
  pub taken-in : p (m + 1) ≡ true → {after : ℕ} → after ≡ with_member set (m + 1) → after ≡ set_of p (m + 1)
  unfolding set_of with_member
  taken-in t {after} a =
      let w : m + 1 - 1 ≡ m = omega arith in
      a ∙ rw (w, e, add-one, rw add-one at t)

  pub left-out : p (m + 1) ≡ false → {after : ℕ} → after ≡ set → after ≡ set_of p (m + 1)
  unfolding set_of
  left-out t {after} a = a ∙ rw (e, add-one, rw add-one at t) (omega arith)
