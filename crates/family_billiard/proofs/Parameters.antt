-- The q that the code has sets for, one by one.
use Prim.Native.Nat.{ℕ, ◌≤◌}
use mathlib.Core.Path.{◌≡◌}
use mathlib.Core.Logic.{⊎_elim}
use mathlib.Core.Bool.{true}
use native.Mathlib.Omega.{arith}
use lib.Dec.{eqb}
use borrow.Author.Tests.{eqb-true}
use Rattle.basics.proofs.Basics.{or-either}
use Rattle.basics.proofs.Numbers.{three}
use Rattle.family_billiard.specs.Billiard.{q_listed, q_computed}

-- what holds at each q holds of any that is listed
pub by-q : (P : ℕ → Type 0) → P 3 → P 5 → P 7 → (q : ℕ) → q_listed q ≡ true → P q
by-q P a b d q h = three P 3 5 7 q a b d h

-- the same of any q that the code has sets for
pub by-q-or-nine : (P : ℕ → Type 0) → P 3 → P 5 → P 7 → P 9 → (q : ℕ) → q_computed q ≡ true → P q
unfolding q_computed
by-q-or-nine P a b d e q h =
    ⊎_elim (λ k. by-q P a b d q k) (λ k. rw (eqb-true q 9 k) e) (or-either (q_listed q) (eqb q 9) h)

pub q-bounds : (q : ℕ) → q_computed q ≡ true → (3 ≤ q) × (q ≤ 9)
q-bounds q h =
    by-q-or-nine (λ n. (3 ≤ n) × (n ≤ 9)) (omega arith, omega arith) (omega arith, omega arith) (omega arith, omega arith) (omega arith, omega arith) q h
