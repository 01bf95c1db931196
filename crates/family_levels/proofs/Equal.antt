-- Request 2.6: all sets of levels are equally large. A level of p sites, and one site of each other level.
use Prim.Native.Nat.{ℕ, zero, suc, ◌+◌, ◌-◌, ◌*◌, ◌/◌, ◌%◌, ◌≤◌, ◌<◌}
use mathlib.Core.Path.{◌≡◌, refl, ap, ◌∙◌}
use mathlib.Core.Bool.{Bool, false, ◌&&◌, ◌||◌, cond}
use native.Mathlib.Nat.{mul_comm, mul-pos, suc-mul, mod-eq_of_lt, div-eq_of_lt, mul-add-div_right, mul-add-mod_self_right}
use native.Mathlib.Omega.{arith}
use lib.Dec.{eqb, leb}
use borrow.Author.Tests.{eq-eqb, ne_eqb, eqb-true, eqb-false, le-leb, lt-leb, leb-true, leb-false}
use Rattle.basics.specs.Helpers.{count}
use Rattle.basics.proofs.Basics.{by_bool, and_second, count_same, count-all, count-one, count-behind}
use Rattle.family_sets.specs.Meeting.{SiteTo}
use Rattle.family_levels.specs.Levels.{levels_size, levels_members, level_of, row_of, bay_of, in_levels}
use Rattle.family_levels.proofs.Meeting.{place, site, place-low, level-most, site-number, takes-level-and-bay}

-- the sites of a level, and those at one spot of each level, p sites to a level
module _ (p level spot : ℕ) (pos : 1 ≤ p) (first : 1 ≤ level) (h : SiteTo p spot) where
  abbrev pub taken : ℕ → Bool
  taken m = eqb (1 + (m - 1) / p) level || eqb (1 + (m - 1) % p) spot

  -- site j of the level behind k others
  taken-on : (k j : ℕ) → SiteTo p j → taken (k * p + j) ≡ eqb (1 + k) level || eqb j spot
  taken-on k j r =
      let e : k * p + j - 1 ≡ k * p + (j - 1) = omega arith in
      let s : j - 1 < p = omega arith in
      let d : 1 + (j - 1) ≡ j = omega arith in
      let z : k + 0 ≡ k = omega arith in
      rw (e, mul-add-div_right pos k (j - 1), div-eq_of_lt s, mul-add-mod_self_right k p (j - 1), mod-eq_of_lt s, d, z)

  level-count : (k : ℕ) → count (λ j. taken (k * p + j)) p ≡ cond (eqb (1 + k) level) p 1
  level-count k =
      by_bool (eqb (1 + k) level)
      (λ t. rw t (count-all _ p (λ j c d. taken-on k j (c, d) ∙ rw t)))
      (λ t. rw t (count_same _ (λ j. eqb j spot) p (λ j c d. taken-on k j (c, d) ∙ rw t)
      ∙ count-one (λ j. eqb j spot) spot p h.0 (eq-eqb spot spot refl) (λ j ne. ne_eqb j spot ne) h.1))

  pub levels-count : (k : ℕ) → count taken (k * p) ≡ cond (leb level k) (p + k - 1) k
  unfolding count
  levels-count zero = let z : 0 * p ≡ 0 = omega arith in rw (z, lt-leb level 0 first)
  levels-count (suc k) =
      let w = levels-count k in
      let v = level-count k in
      rw (suc-mul k p, count-behind taken (k * p) p)
      (by_bool (eqb (1 + k) level)
      (λ t. let q = eqb-true (1 + k) level t in
      let x = rw (lt-leb level k (omega arith)) at w in
      let y = rw t at v in
      rw (le-leb level (suc k) (omega arith)) (omega arith))
      (λ t. let q = eqb-false (1 + k) level t in
      let y = rw t at v in
      by_bool (leb level k)
      (λ u. let b = leb-true level k u in
      let x = rw u at w in
      rw (le-leb level (suc k) (omega arith)) (omega arith))
      (λ u. let b = leb-false level k u in
      let x = rw u at w in
      rw (lt-leb level (suc k) (omega arith)) (omega arith))))

module _ (a b c : ℕ) (rows : 1 ≤ a) (bays : 1 ≤ b) (levels : 1 ≤ c) where
  -- the row and the bay tell the place
  same_place : (n m : ℕ) → eqb (row_of a b m) (row_of a b n) && eqb (bay_of a b m) (bay_of a b n) ≡ eqb (place a b c rows bays levels m) (place a b c rows bays levels n)
  same_place n m =
      by_bool (eqb (1 + (m - 1) % (a * b)) (1 + (n - 1) % (a * b)))
      (λ t. let e = eqb-true (1 + (m - 1) % (a * b)) (1 + (n - 1) % (a * b)) t in
      let f : (m - 1) % (a * b) ≡ (n - 1) % (a * b) = omega arith in
      rw (t, f, eq-eqb (row_of a b n) (row_of a b n) refl, eq-eqb (bay_of a b n) (bay_of a b n) refl))
      (λ t. let ne = eqb-false (1 + (m - 1) % (a * b)) (1 + (n - 1) % (a * b)) t in
      rw t
      (by_bool (eqb (row_of a b m) (row_of a b n))
      (λ u. by_bool (eqb (bay_of a b m) (bay_of a b n))
      (λ v. absurd (ne (same_number n m (eqb-true _ _ u) (eqb-true _ _ v))))
      (λ v. rw v (and_second (eqb (row_of a b m) (row_of a b n)) false refl)))
      (λ u. rw u)))
    where
      same_number : (n m : ℕ) → row_of a b m ≡ row_of a b n → bay_of a b m ≡ bay_of a b n → 1 + (m - 1) % (a * b) ≡ 1 + (n - 1) % (a * b)
      same_number n m r s =
          let x = site-number a b c rows bays levels m 1 in
          let y = site-number a b c rows bays levels n 1 in
          let e : site a b c rows bays levels m 1 ≡ site a b c rows bays levels n 1 = rw (r, s) in
          omega arith

  pub levels-equal : (n : ℕ) → SiteTo (levels_size a b c) n → count (in_levels a b c n) (levels_size a b c) ≡ levels_members a b c
  levels-equal n h =
      let l = level-most a b c rows bays levels n h in
      let t = taken (a * b) (level_of a b n) (1 + (n - 1) % (a * b)) (mul-pos rows bays) l.0 (place-low a b c rows bays levels n) in
      count_same _ t (levels_size a b c) (λ m x y. takes-level-and-bay a b c rows bays levels n m h (x, y) ∙ rw (same_place n m))
      ∙ ap (count t) (mul_comm (a * b) c)
      ∙ levels-count (a * b) (level_of a b n) (1 + (n - 1) % (a * b)) (mul-pos rows bays) l.0 (place-low a b c rows bays levels n) c
      ∙ rw (le-leb (level_of a b n) c l.1)
