-- The listed p, one by one.
use Prim.Native.Nat.{ℕ, ◌≤◌}
use mathlib.Core.Path.{◌≡◌}
use mathlib.Core.Bool.{true}
use native.Mathlib.Omega.{arith}
use Rattle.basics.proofs.Numbers.{three}
use Rattle.family_plane.specs.Plane.{p_listed}

-- what holds at each p holds of any that is listed
pub by-p : (P : ℕ → Type 0) → P 2 → P 3 → P 5 → (p : ℕ) → p_listed p ≡ true → P p
by-p P a b d p h = three P 2 3 5 p a b d h

pub p-bounds : (p : ℕ) → p_listed p ≡ true → (2 ≤ p) × (p ≤ 5)
p-bounds p h = by-p (λ n. (2 ≤ n) × (n ≤ 5)) (omega arith, omega arith) (omega arith, omega arith) (omega arith, omega arith) p h
