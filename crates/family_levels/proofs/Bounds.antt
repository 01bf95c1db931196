-- Bounds of the numbers that the code computes.
use Prim.Native.Nat.{ℕ, ◌-◌, ◌*◌, ◌%◌, ◌≤◌}
use native.Mathlib.Nat.{mod-le, div-le_self}
use native.Mathlib.Omega.{arith}
use Rattle.family_sets.specs.Meeting.{SiteTo}
use Rattle.family_levels.specs.Levels.{level_of, row_of, bay_of}

module _ (a b n : ℕ) where
  pub level-range : 1 ≤ n → SiteTo n (level_of a b n)
  level-range h = let l = div-le_self (n - 1) (a * b) in (omega arith, omega arith)

  pub row-range : 1 ≤ n → SiteTo n (row_of a b n)
  row-range h =
      let l = div-le_self ((n - 1) % (a * b)) b in
      let m = mod-le (n - 1) (a * b) in
      (omega arith, omega arith)

  pub bay-range : 1 ≤ n → SiteTo n (bay_of a b n)
  bay-range h =
      let l = mod-le ((n - 1) % (a * b)) b in
      let m = mod-le (n - 1) (a * b) in
      (omega arith, omega arith)
