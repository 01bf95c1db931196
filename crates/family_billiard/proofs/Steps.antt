-- The steps of a billiard path stay above 0: read off the tests of specs/Billiard.
use Prim.Native.Nat.{ℕ, suc, pred, ◌+◌, ◌-◌, ◌/◌, ◌≤◌, ◌<◌}
use mathlib.Core.Path.{◌≡◌}
use mathlib.Core.Bool.{Bool, true, cond}
use native.Mathlib.Omega.{arith}
use lib.Dec.{ltb, leb}
use borrow.Author.Tests.{lt-ltb, le-ltb, lt-leb, leb-true}
use Rattle.basics.proofs.Basics.{and_split, all-at}
use Rattle.family_billiard.specs.Billiard.{billiard_size, above, step_fits, path_fits, path_site, Location}

module _ (q i j k x : ℕ) (h : step_fits q i j k x ≡ true) where
  abbrev long : Bool
  long = leb ((q + 1) / 2) x

  both : (leb x (billiard_size 9) ≡ true) × (cond (above q i j) (cond (ltb k j) long (cond (leb k (q - i)) true long)) long ≡ true)
  unfolding step_fits
  both = and_split (leb x (billiard_size 9)) (cond (above q i j) (cond (ltb k j) long (cond (leb k (q - i)) true long)) long) h

  pub site-most : x ≤ billiard_size 9
  site-most = leb-true x (billiard_size 9) both.0

  pub early-fits : i + j < q + 1 → k < j → (q + 1) / 2 ≤ x
  early-fits a b = leb-true _ _ (rw (lt-ltb _ _ a, lt-ltb _ _ b) at both.1)

  pub late-fits : i + j < q + 1 → j ≤ k → q - i < k → (q + 1) / 2 ≤ x
  late-fits a b d = leb-true _ _ (rw (lt-ltb _ _ a, le-ltb _ _ b, lt-leb _ _ d) at both.1)

  pub below-fits : q + 1 ≤ i + j → (q + 1) / 2 ≤ x
  below-fits a = leb-true _ _ (rw (le-ltb _ _ a) at both.1)

-- step k + 1 of a path
pub step_fits_lem : (q i j k : ℕ) → Location q i j → k + 1 < q → step_fits q i j (suc k) (path_site q i j k) ≡ true
unfolding path_fits
step_fits_lem q i j k l h = all-at (λ k. step_fits q i j k (path_site q i j (pred k))) (q - 1) (suc k) l.fits (omega arith) (omega arith)
