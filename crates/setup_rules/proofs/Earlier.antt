-- Set k + 1 and the sets before it, as the code compares them.
use Prim.Native.Nat.{ℕ, zero, suc, ◌+◌, ◌^◌, ◌≤◌, ◌<◌}
use Rattle.std.specs.Bool.{MatchBool}
use Rattle.std.specs.List.{AllWithin, HoldsAt}
use Rattle.std.proofs.lemmas.List.{get_or-take, length-take-le}
use mathlib.Core.Path.{◌≡◌, sym}
use mathlib.Core.Bool.{Bool, true, false}
use mathlib.Core.List.{List}
use native.Mathlib.Numerals.{add-one}
use native.Mathlib.Omega.{arith}
use lib.ListN.{length, take, get_or}
use Rattle.basics.proofs.Basics.{all-at, all-fails, all_of}
use Rattle.model.specs.Tables.{at}
use Rattle.model.specs.Setup.{all_name}
use Rattle.model.proofs.Sets.{names-below}
use Rattle.setup_rules.specs.declared.Rule.{Rule}
use Rattle.setup_rules.specs.Rules.{pair_keeps, earlier_keep}

-- what the code says of two sets
abbrev pub PairTold : Rule → ℕ → Bool → ℕ → Type 0
PairTold rule a r b = (n : ℕ) → a < 2 ^ n → b < 2 ^ n → r ≡ pair_keeps rule n a b

module _ (rule : Rule) (n : ℕ) (sets : List ℕ) (k : ℕ) (e : all_name n sets ≡ true) (l : k < n) (m : k < length sets) where
  -- a set that names sites 1 to n only
  below : (i : ℕ) → i < n → get_or sets i 0 < 2 ^ n
  unfolding all_name at
  below i h = names-below n (get_or sets i 0) (all-at _ n (suc i) e (omega arith) h)

  abbrev first : List ℕ
  first = take k sets

  -- a set before set k + 1 keeps the rule with it as the code says
  pair-told : (r : Bool) (i : ℕ) → i < k → PairTold rule (get_or sets k 0) r (get_or first i 0) → r ≡ pair_keeps rule n (get_or sets k 0) (get_or sets i 0)
  pair-told r i h t = rw (get_or-take k sets i 0 h) at t n (below k l) (below i (omega arith))

  pub earlier-told :
      (r : Bool)
      → MatchBool r (AllWithin (PairTold rule (get_or sets k 0) true) first 0 (length first)) ((i : ℕ) × (i < length first) × HoldsAt (PairTold rule (get_or sets k 0) false) first i)
      → r ≡ earlier_keep rule n sets (k + 1)
  unfolding earlier_keep at
  earlier-told true t =
      rw add-one (sym (all_of _ k passes))
    where
      passes : (i : ℕ) → 1 ≤ i → i ≤ k → pair_keeps rule n (get_or sets k 0) (at 0 sets i) ≡ true
      passes zero a b = absurd (omega arith)
      passes (suc i) a b = sym (pair-told true i b (t i 0 (omega arith) (omega (arith, length-take-le k sets))))
  earlier-told false t =
      let long : length first ≡ k = length-take-le k sets (omega arith) in
      let f = sym (pair-told false t.0 (omega (arith, t.1)) (t.2 0)) in
      rw add-one (sym (all-fails _ k (suc t.0) (omega arith) (omega (arith, t.1)) f))
