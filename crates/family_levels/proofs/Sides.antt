-- The listed sides.
use Prim.Native.Nat.{ℕ, ◌+◌, ◌-◌, ◌*◌, ◌≤◌}
use mathlib.Core.Path.{◌≡◌, sym}
use mathlib.Core.Bool.{Bool, true, false, ◌&&◌}
use native.Mathlib.Nat.{mul-pos, add-mul, mul_comm, mul-le-mul, mul-le-mul_right, one-mul}
use native.Mathlib.Omega.{arith}
use lib.Dec.{leb}
use Rattle.std.specs.List.{list_all}
use mathlib.Core.List.{[], ◌∷◌}
use Rattle.family_sets.specs.Meeting.{SiteTo}
use borrow.Author.Tests.{leb-true, le-leb}
use Rattle.rig.specs.Limits.{site_limit}
use Rattle.basics.proofs.Basics.{by_bool, clash, and_split}
use Rattle.model.specs.State.{in_range}
use Rattle.model.proofs.Shaped.{within, in-range}
use Rattle.family_levels.specs.Levels.{sides_listed, levels_size, levels_width, LevelFits}

pub record Sides (a b c : ℕ) : Type 0 where
  pub rows : 1 ≤ a
  pub bays : 1 ≤ b
  pub levels : 1 ≤ c
  pub most : levels_size a b c ≤ site_limit

pub sides : (a b c : ℕ) → sides_listed a b c ≡ true → Sides a b c
unfolding sides_listed
sides a b c h =
    let l = leb (a * b * c) site_limit in
    let x = and_split (leb 1 a) (leb 1 b && (leb 1 c && l)) h in
    let y = and_split (leb 1 b) (leb 1 c && l) x.1 in
    let z = and_split (leb 1 c) l y.1 in
    record { rows = leb-true 1 a x.0; bays = leb-true 1 b y.0; levels = leb-true 1 c z.0; most = leb-true (a * b * c) site_limit z.1 }

-- a factor is at most the product
factor : (x y : ℕ) → 1 ≤ y → x ≤ x * y
factor x y h = let l = rw one-mul at (mul-le-mul_right x h) in rw (mul_comm x y) l

-- a sum is at most one above the product
sum-most : (x y : ℕ) → 1 ≤ x → 1 ≤ y → x + y ≤ x * y + 1
sum-most x y h l =
    let d : x - 1 + 1 ≡ x = omega arith in
    let e = rw (d, one-mul) at (add-mul (x - 1) 1 y) in
    let m = factor (x - 1) y l in
    omega arith

module _ (a b c : ℕ) (s : Sides a b c) where
  pub size_low : 1 ≤ levels_size a b c
  size_low = mul-pos (mul-pos s.rows s.bays) s.levels

  pub level-fits : LevelFits a b
  level-fits =
      let p = mul-pos s.rows s.bays in
      let m = factor (a * b) c s.levels in
      let x = factor a b s.bays in
      let y = rw (mul_comm b a) at (factor b a s.rows) in
      let h : a * b ≤ site_limit = omega (arith, s.most) in
      ((s.rows, omega arith), (s.bays, omega arith), (p, h))

  pub width-most : levels_width a b c ≤ site_limit + 1
  width-most = let w = sum-most (a * b) c (mul-pos s.rows s.bays) s.levels in omega (arith, s.most)

abbrev pub ProductsSmall : ℕ → ℕ → ℕ → Type 0
ProductsSmall a b c = (a * b ≤ site_limit * site_limit) × (a * b * c ≤ site_limit * site_limit * site_limit)

-- a side that is not of 1 to the limit is not listed; of sides that are, the product decides
module _ (a b c : ℕ) where
  abbrev pub in_limit : Bool
  in_limit = list_all (in_range site_limit) (a ∷ b ∷ c ∷ [])

  pub side-fails : in_limit ≡ false → false ≡ sides_listed a b c
  side-fails h =
      by_bool (sides_listed a b c)
      (λ e.
      let s = sides a b c e in
      let m = s.most in
      let p = mul-pos s.rows s.bays in
      let x = factor a b s.bays in
      let y = rw (mul_comm b a) at (factor b a s.rows) in
      let z = factor (a * b) c s.levels in
      let w = rw (mul_comm c (a * b)) at (factor c (a * b) p) in
      clash in_limit (rw (in-range site_limit a s.rows (omega arith), in-range site_limit b s.bays (omega arith), in-range site_limit c s.levels (omega arith))) h)
      (λ e. sym e)

  module _ (h : in_limit ≡ true) where
    rows : SiteTo site_limit a
    rows = within site_limit a (and_split (in_range site_limit a) _ h).0

    others : in_range site_limit b && (in_range site_limit c && true) ≡ true
    others = (and_split (in_range site_limit a) _ h).1

    bays : SiteTo site_limit b
    bays = within site_limit b (and_split (in_range site_limit b) _ others).0

    levels : SiteTo site_limit c
    levels = within site_limit c (and_split (in_range site_limit c) true (and_split (in_range site_limit b) _ others).1).0

    pub product-decides : leb (a * b * c) site_limit ≡ sides_listed a b c
    unfolding sides_listed
    product-decides = rw (le-leb 1 a rows.0, le-leb 1 b bays.0, le-leb 1 c levels.0)

    -- sides of 1 to the limit have small products
    pub products : ProductsSmall a b c
    products = let p = mul-le-mul rows.1 bays.1 in (p, mul-le-mul p levels.1)
