-- Each site of a billiard has its location, and the path from there fits: one test over all sites, computed for each q.
use Prim.Native.Nat.{ℕ, ◌+◌, ◌*◌, ◌≤◌}
use mathlib.Core.Path.{◌≡◌, refl}
use mathlib.Core.Bool.{Bool, true}
use native.Mathlib.Omega.{arith}
use lib.Dec.{ltb, leb}
use borrow.Author.Tests.{leb-true, ltb-true}
use Rattle.basics.specs.Helpers.{all}
use Rattle.basics.proofs.Basics.{all-at}
use Rattle.family_billiard.specs.Billiard.{q_computed, billiard_size, mod_from_one, column_of, row_of, first_site, next_above, next_below, next_site, path_site, step_fits, path_fits, Location}
use Rattle.family_billiard.proofs.Parameters.{by-q-or-nine, q-bounds}

-- a test that passes at each site of each billiard passes at any
for-each :
    (test : ℕ → ℕ → Bool) →
    all (test 3) (billiard_size 3) ≡ true →
    all (test 5) (billiard_size 5) ≡ true →
    all (test 7) (billiard_size 7) ≡ true →
    all (test 9) (billiard_size 9) ≡ true →
    (q n : ℕ) → q_computed q ≡ true → 1 ≤ n → n ≤ billiard_size q → test q n ≡ true
for-each test a b d e q n h x y =
    all-at (test q) (billiard_size q) n (by-q-or-nine (λ q. all (test q) (billiard_size q) ≡ true) a b d e q h) x y

pub size-most : (q : ℕ) → q_computed q ≡ true → billiard_size q ≤ billiard_size 9
size-most = by-q-or-nine (λ q. billiard_size q ≤ billiard_size 9) (omega arith) (omega arith) (omega arith) (omega arith)

module _ (q n : ℕ) (h : q_computed q ≡ true) (a : 1 ≤ n) (b : n ≤ billiard_size q) where
  pub column-within : column_of q n ≤ 2 * n
  unfolding all mod_from_one
  column-within = leb-true _ _ (for-each (λ q n. leb (column_of q n) (2 * n)) refl refl refl refl q n h a b)

  pub location : Location q (row_of q n) (column_of q n)
  unfolding all mod_from_one first_site next_above next_below next_site path_site step_fits path_fits
  location = record {
    q-least = (q-bounds q h).0;
    q-most = (q-bounds q h).1;
    row-least = leb-true _ _ (for-each (λ q n. leb 1 (row_of q n)) refl refl refl refl q n h a b);
    row-most = leb-true _ _ (for-each (λ q n. leb (row_of q n) q) refl refl refl refl q n h a b);
    column-least = leb-true _ _ (for-each (λ q n. leb 1 (column_of q n)) refl refl refl refl q n h a b);
    column-most = leb-true _ _ (for-each (λ q n. leb (column_of q n) q) refl refl refl refl q n h a b);
    sum-most = ltb-true _ _ (for-each (λ q n. ltb (row_of q n + column_of q n) (2 * q)) refl refl refl refl q n h a b);
    fits = for-each (λ q n. path_fits q (row_of q n) (column_of q n)) refl refl refl refl q n h a b;
  }
