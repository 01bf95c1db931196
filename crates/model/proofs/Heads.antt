-- The head of a queue is one of its sites, or 0.
use Prim.Native.Nat.{ℕ, zero, suc, ◌≤◌}
use mathlib.Core.List.{List}
use native.Mathlib.Omega.{arith}
use lib.Dec.{eqb}
use Rattle.basics.proofs.Basics.{by_bool}
use Rattle.model.specs.Tables.{at}
use Rattle.model.specs.Priority.{goes_first, head_with, head}

-- one site more
head-with-within : (row : List ℕ) (k h : ℕ) → h ≤ k → head_with row k h ≤ k
unfolding head_with
head-with-within row k h le =
    by_bool (eqb (at 0 row k) 0)
    (λ e. rw e le)
    (λ e. by_bool (eqb h 0)
    (λ z. rw (e, z) (omega arith))
    (λ z. by_bool (goes_first row k h) (λ b. rw (e, z, b) (omega arith)) (λ b. rw (e, z, b) le)))

pub head-within : (row : List ℕ) (n : ℕ) → head row n ≤ n
unfolding head
head-within row zero = omega arith
head-within row (suc n) = let h = head-within row n in head-with-within row (suc n) (head row n) (omega arith)
