-- What equal asks have in common.
use Prim.Native.Nat.{ℕ}
use mathlib.Core.Path.{◌≡◌, refl, ap}
use mathlib.Core.Bool.{Bool, true, false, ◌||◌}
use borrow.Author.Tests.{eq-eqb}
use Rattle.protocol.specs.Ask.{Ask}
use Rattle.protocol.specs.Site.{is_lost, answers_ask}

-- equal asks have equal numbers
pub same_number : {a b : Ask} → a ≡ b → a.number ≡ b.number
same_number e = ap (λ (x : Ask). x.number) e

-- a fail with the number of the ask is for it
pub answers-own : (a : Ask) (n : ℕ) → n ≡ a.number → answers_ask a n ≡ true
answers-own a n e = rw (eq-eqb n a.number e) (either (is_lost n))
  where
    either : (b : Bool) → b || true ≡ true
    either true = refl
    either false = refl
