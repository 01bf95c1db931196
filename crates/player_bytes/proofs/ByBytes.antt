-- A word by its length and its bytes.
use Prim.Native.Nat.{ℕ, suc}
use mathlib.Core.Bool.{Bool, true, false, ◌&&◌}
use mathlib.Core.List.{List, [], ◌∷◌}
use mathlib.Core.Path.{◌≡◌, refl}
use borrow.Author.Tests.{eq-eqb}
use native.Mathlib.Omega.{arith}
use Rattle.std.proofs.lemmas.Bool.Decides.{nat_tests}
use lib.Dec.{eqb}
use lib.ListN.{length, get_or}
use Rattle.basics.proofs.Basics.{and_second, by_bool, clash}
use Rattle.player_bytes.specs.Same.{same}

-- the bytes from place i on
abbrev pub reads : List ℕ → ℕ → List ℕ → Bool
reads xs i [] = true
reads xs i (y ∷ ys) = eqb (get_or xs i 0) y && reads xs (suc i) ys

behind : (x : ℕ) (xs : List ℕ) (i : ℕ) (ys : List ℕ) → reads (x ∷ xs) (suc i) ys ≡ reads xs i ys
behind x xs i [] = refl
behind x xs i (y ∷ ys) = rw (behind x xs (suc i) ys) refl

by-bytes : (xs ys : List ℕ) → length xs ≡ length ys → same xs ys ≡ reads xs 0 ys
unfolding same
by-bytes [] [] h = refl
by-bytes [] (y ∷ ys) h = absurd (omega arith)
by-bytes (x ∷ xs) [] h = absurd (omega arith)
by-bytes (x ∷ xs) (y ∷ ys) h = rw (behind x xs 0 ys, by-bytes xs ys (omega arith)) refl

other-length : (xs ys : List ℕ) → (length xs ≡ length ys → ⊥) → same xs ys ≡ false
unfolding same
other-length [] [] h = absurd (h refl)
other-length [] (y ∷ ys) h = refl
other-length (x ∷ xs) [] h = refl
other-length (x ∷ xs) (y ∷ ys) h = and_second (eqb x y) (same xs ys) (other-length xs ys (λ e. h (omega arith)))

pub same_reads : (xs ys : List ℕ) → same xs ys ≡ (eqb (length xs) (length ys) && reads xs 0 ys)
same_reads xs ys =
    by_bool (eqb (length xs) (length ys))
    (λ e. rw e (by-bytes xs ys (grind (arith, nat_tests))))
    (λ e. rw e (other-length xs ys (λ h. clash _ (eq-eqb _ _ h) e)))
