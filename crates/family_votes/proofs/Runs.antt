-- "n, n + 1 and so on, after N again 1": where a run is after so many sites.
use Prim.Native.Nat.{ℕ, zero, suc, ◌+◌, ◌-◌, ◌^◌, ◌≤◌, ◌<◌}
use mathlib.Core.Path.{◌≡◌, refl, sym, subst}
use mathlib.Core.Bool.{true, false, ◌||◌}
use native.Mathlib.Omega.{arith}
use lib.Dec.{eqb, leb}
use borrow.Author.Tests.{eq-eqb, ne_eqb, leb-true, leb-false}
use Rattle.basics.specs.Helpers.{any}
use Rattle.basics.proofs.Basics.{by_bool, any_of, any_none}
use Rattle.model.specs.Sets.{set_of}
use Rattle.family_sets.specs.Rule.{is_entry}
use Rattle.family_sets.specs.Meeting.{SiteTo}
use Rattle.family_sets.proofs.Members.{set-with}
use Rattle.family_votes.specs.Votes.{site_after, site_from, in_run}

-- no site passes
set-none : (size : ℕ) → set_of (λ m. false) size ≡ 0
unfolding set_of
set-none zero = refl
set-none (suc i) = rw (set-none i)

module _ (size n : ℕ) (h : SiteTo size n) where
  -- as long as it has not passed N
  pub from-below : (k : ℕ) → n + k ≤ size → site_from size n k ≡ n + k
  unfolding site_from site_after
  from-below zero l = omega arith
  from-below (suc k) l = rw (from-below k (omega arith), ne_eqb (n + k) size (λ (e : n + k ≡ size). omega arith)) (omega arith)

  -- and once it has
  pub from_past : (k : ℕ) → size < n + k → n + k ≤ size + size → site_from size n k ≡ n + k - size
  unfolding site_from site_after
  from_past zero l m = absurd (omega arith)
  from_past (suc k) l m =
      by_bool (leb (n + k) size)
      (λ t. let b = leb-true _ _ t in
      let e : n + k ≡ size = omega arith in
      rw (from-below k b, eq-eqb (n + k) size e) (omega arith))
      (λ t. let b : size < n + k = leb-false _ _ t in
      rw (from_past k b (omega arith), ne_eqb (n + k - size) size (λ (e : n + k - size ≡ size). omega arith)) (omega arith))

  -- where it is one of the sites of its first round
  pub from-range : (k : ℕ) → k ≤ size → SiteTo size (site_from size n k)
  from-range k l =
      by_bool (leb (n + k) size)
      (λ t. let b = leb-true _ _ t in rw (from-below k b) (omega arith, b))
      (λ t. let b : size < n + k = leb-false _ _ t in rw (from_past k b (omega arith)) (omega arith, omega arith))

  -- no site comes twice in a round
  from-new : (i k : ℕ) → i < k → k < size → site_from size n k ≡ site_from size n i → ⊥
  from-new i k l m e =
      by_bool (leb (n + k) size)
      (λ t. let b = leb-true _ _ t in
      let x = from-below k b in
      let y = from-below i (omega arith) in
      omega arith)
      (λ t. let b : size < n + k = leb-false _ _ t in
      let x = from_past k b (omega arith) in
      by_bool (leb (n + i) size)
      (λ u. let y = from-below i (leb-true _ _ u) in omega arith)
      (λ u. let c : size < n + i = leb-false _ _ u in let y = from_past i c (omega arith) in omega arith))

  -- the k-th site after site n is in a longer run, and not in one of k sites
  pub run-has : (k length : ℕ) → k < length → in_run size length n (site_from size n k) ≡ true
  unfolding is_entry
  run-has k length l = any_of _ length (suc k) (omega arith) l (eq-eqb _ _ (pred k))
    where
      pred : (k : ℕ) → site_from size n k ≡ site_from size n (suc k - 1)
      pred k = let e : suc k - 1 ≡ k = omega arith in rw e

  run-lacks : (k : ℕ) → k < size → in_run size k n (site_from size n k) ≡ false
  unfolding is_entry
  run-lacks k l = any_none _ k (λ i a b. ne_eqb _ _ (from-new (i - 1) k (omega arith) l))

  -- a run without sites, and one of one site more
  pub run-begun : set_of (in_run size 0 n) size ≡ 0
  unfolding is_entry any
  run-begun = set-none size

  pub run_more : (k : ℕ) → k < size → set_of (in_run size (suc k) n) size ≡ set_of (in_run size k n) size + 2 ^ (site_from size n k - 1)
  unfolding is_entry any
  run_more k l =
      let r = from-range k (omega arith) in
      let e : suc k - 1 ≡ k = omega arith in
      subst (λ i. set_of (λ m. in_run size k n m || eqb m (site_from size n i)) size ≡ set_of (in_run size k n) size + 2 ^ (site_from size n k - 1)) (sym e)
      (set-with (in_run size k n) size (site_from size n k) r.0 r.1 (run-lacks k l))
