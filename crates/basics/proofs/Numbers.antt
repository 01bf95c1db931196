-- Laws of small numbers.
use Prim.Native.Nat.{ℕ, ◌*◌, ◌≤◌}
use mathlib.Core.Path.{◌≡◌}
use mathlib.Core.Logic.{⊎_elim}
use mathlib.Core.Bool.{true, ◌||◌}
use native.Mathlib.Nat.{mul-le-mul, mul-le-mul_right}
use lib.Dec.{eqb}
use borrow.Author.Tests.{eqb-true}
use Rattle.basics.proofs.Basics.{or-either}

-- the product of two numbers up to 31 is small
pub product : (a b : ℕ) → a ≤ 31 → b ≤ 31 → a * b ≤ 961
product a b h k = mul-le-mul h k

pub square-least : (q : ℕ) → 2 ≤ q → 2 * q ≤ q * q
square-least q h = mul-le-mul_right q h

-- what holds of each of three numbers holds of one that is among them
pub three : (P : ℕ → Type 0) (a b d n : ℕ) → P a → P b → P d → eqb n a || (eqb n b || eqb n d) ≡ true → P n
three P a b d n x y z e =
    ⊎_elim
    (λ h. rw (eqb-true n a h) x)
    (λ h. ⊎_elim (λ k. rw (eqb-true n b k) y) (λ k. rw (eqb-true n d k) z) (or-either (eqb n b) (eqb n d) h))
    (or-either (eqb n a) (eqb n b || eqb n d) e)
