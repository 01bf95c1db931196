-- The listed sides, one by one.
use Prim.Native.Nat.{ℕ, zero, suc, ◌≤◌}
use mathlib.Core.Path.{◌≡◌}
use mathlib.Core.Bool.{true}
use native.Mathlib.Omega.{arith}
use lib.Dec.{leb}
use borrow.Author.Tests.{leb-true}
use Rattle.basics.proofs.Basics.{and_split}
use Rattle.family_grid.specs.Grid.{side_listed}

pub side-bounds : (s : ℕ) → side_listed s ≡ true → (1 ≤ s) × (s ≤ 5)
side-bounds s h = let w = and_split (leb 1 s) (leb s 5) h in (leb-true 1 s w.0, leb-true s 5 w.1)

-- what holds at each side holds of any that is listed
pub by_side : (P : ℕ → Type 0) → P 1 → P 2 → P 3 → P 4 → P 5 → (s : ℕ) → side_listed s ≡ true → P s
by_side P a b d e f s h = up-to-five s (side-bounds s h).0 (side-bounds s h).1
  where
    up-to-five : (n : ℕ) → 1 ≤ n → n ≤ 5 → P n
    up-to-five zero l m = absurd (omega arith)
    up-to-five (suc zero) l m = a
    up-to-five (suc (suc zero)) l m = b
    up-to-five (suc (suc (suc zero))) l m = d
    up-to-five (suc (suc (suc (suc zero)))) l m = e
    up-to-five (suc (suc (suc (suc (suc zero))))) l m = f
    up-to-five (suc (suc (suc (suc (suc (suc n)))))) l m = absurd (omega arith)
