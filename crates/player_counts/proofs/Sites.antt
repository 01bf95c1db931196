-- The first of the sites 1 to n that passes a test, and how many pass, by the list of sites. A site past the list's end is at rest, which does not pass.
use Prim.Native.Nat.{ℕ, zero, suc, ◌+◌, ◌≤◌, ◌<◌}
use Rattle.std.proofs.Common.{Option, Some, None, MatchOption}
use Rattle.std.specs.List.{AllWithin, HoldsAt, count_by}
use Rattle.std.proofs.lemmas.List.{take_all, get_or_past, get_or-take, length-take}
use Rattle.std.proofs.lemmas.List.Sums.{count_by_more_yes, count_by_more_no}
use mathlib.Core.Path.{◌≡◌, refl, sym, ap, ◌∙◌}
use mathlib.Core.Bool.{Bool, true, false}
use mathlib.Core.List.{List}
use native.Mathlib.Numerals.{add-one}
use native.Mathlib.Omega.{arith}
use lib.Dec.{ltb}
use lib.ListN.{length, take, get_or}
use borrow.Author.Tests.{ltb-true, ltb-false}
use Rattle.basics.specs.Helpers.{count, lowest}
use Rattle.basics.proofs.Basics.{by_bool, lowest-none, lowest-found}
use Rattle.rig.specs.declared.Site.{Site}
use Rattle.model.specs.Tables.{at}
use Rattle.model.specs.Setup.{resting_site}

-- the index of the first that passes, as `position` finds it in a list
abbrev pub FirstAt : (Site → Bool) → List Site → Option ℕ → Type 0
FirstAt p xs r =
    MatchOption r
    (AllWithin (λ s. p s ≡ false) xs 0 (length xs))
    (λ i. (i < length xs) × HoldsAt (λ s. p s ≡ true) xs i × AllWithin (λ s. p s ≡ false) xs 0 i)

module _ (p : Site → Bool) (rest : p resting_site ≡ false) (sites : List Site) where
  abbrev pub passes : ℕ → Bool
  passes k = p (at resting_site sites k)

  short : (n : ℕ) → (length (take n sites) ≤ n) × ((i : ℕ) → i < n → i < length sites → i < length (take n sites))
  short n = let e = length-take n sites in (omega arith, λ i a b. omega arith)

  here : (r : Bool) (n i : ℕ) → i < n → p (get_or (take n sites) i resting_site) ≡ r → passes (suc i) ≡ r
  unfolding at
  here r n i l h = rw (get_or-take n sites i resting_site l) at h

  below : (n m : ℕ) → m ≤ n → AllWithin (λ s. p s ≡ false) (take n sites) 0 m → (k : ℕ) → 1 ≤ k → k ≤ m → passes k ≡ false
  below n m l h zero a b = absurd (omega arith)
  below n m l h (suc i) a b = here false n i (omega arith) (h i resting_site (omega arith) b)

  pub none-lowest : (n : ℕ) → FirstAt p (take n sites) None → 0 ≡ lowest passes n
  unfolding at
  none-lowest n h = sym (lowest-none passes n fails)
    where
      fails : (k : ℕ) → 1 ≤ k → k ≤ n → passes k ≡ false
      fails zero a b = absurd (omega arith)
      fails (suc i) a b =
          by_bool (ltb i (length sites))
          (λ t. here false n i b (h i resting_site (omega arith) ((short n).1 i b (ltb-true i (length sites) t))))
          (λ t. rw (get_or_past sites i resting_site (ltb-false i (length sites) t)) rest)

  pub some-lowest : (n i : ℕ) → FirstAt p (take n sites) (Some i) → (i + 1 ≡ lowest passes n) × (i < n)
  some-lowest n i h =
      let l : i < n = omega (arith, h.0, (short n).0) in
      let first = lowest-none passes i (below n i (omega arith) h.2) in
      (rw add-one (sym (lowest-found passes i n first (here true n i l (h.1 resting_site)) l)), l)

  pub first-count : (n : ℕ) → count_by p (take n sites) ≡ count passes n
  unfolding count at
  first-count zero = refl
  first-count (suc n) =
      by_bool (ltb n (length sites))
      (λ t.
      let l = ltb-true n (length sites) t in
      by_bool (p (get_or sites n resting_site))
      (λ u. let more = rw add-one at (count_by_more_yes p sites n resting_site l u) in rw u (more ∙ add-one _ ∙ ap suc (first-count n)))
      (λ u. let more = rw add-one at (count_by_more_no p sites n resting_site l u) in rw u (more ∙ first-count n)))
      (λ t.
      let l = ltb-false n (length sites) t in
      let same : take (suc n) sites ≡ take n sites = take_all (suc n) sites (omega arith) ∙ sym (take_all n sites l) in
      ap (count_by p) same ∙ first-count n ∙ rw (get_or_past sites n resting_site l, rest))
