-- The digits of a number, from the last to the first.
use Prim.Native.Nat.{ℕ, zero, suc, ◌+◌, ◌/◌, ◌%◌, ◌^◌, ◌≤◌, ◌<◌}
use mathlib.Core.List.{[], ◌∷◌, ◌++◌}
use mathlib.Core.Path.{◌≡◌}
use native.Mathlib.Omega.{arith}
use borrow.Author.Tests.{lt-ltb, le-ltb}
use lib.Dec.{ltb}
use lib.ListN.{length, length-append}
use Rattle.basics.proofs.Basics.{by_bool}
use Rattle.player_bytes.specs.Decimal.{digits, decimal}

-- k + 1 places are enough for n
abbrev pub Room : ℕ → ℕ → Type 0
Room k n = n < 10 ^ suc k

pub decimal-room : (n : ℕ) → n < 2 ^ 64 → Room 19 n
decimal-room n h = omega arith

-- a digit alone
pub one-digit : (k n : ℕ) → n < 10 → digits (suc k) n ≡ (48 + n % 10) ∷ []
unfolding digits
one-digit k n h = rw (lt-ltb n 10 h)

-- a last digit behind others
pub record Longer (k n : ℕ) : Type 0 where
  pub fewer : ℕ
  pub room : Room fewer (n / 10)
  pub shown : digits (suc k) n ≡ digits (suc fewer) (n / 10) ++ ((48 + n % 10) ∷ [])

pub longer : (k n : ℕ) → 10 ≤ n → Room k n → Longer k n
unfolding digits
longer zero n h r = absurd (omega arith)
longer (suc k) n h r = record { fewer = k; room = omega arith; shown = rw (le-ltb n 10 h) }

-- one digit at least, and at most as many as there are places
pub some-digit : (k n : ℕ) → 1 ≤ length (digits (suc k) n)
unfolding digits
some-digit k n = simp length-append (omega arith)

digits-length : (k n : ℕ) → length (digits k n) ≤ k
unfolding digits
digits-length zero n = omega arith
digits-length (suc k) n =
    by_bool (ltb n 10)
    (λ e. rw e (omega arith))
    (λ e. let l = digits-length k (n / 10) in rw e (simp length-append (omega arith)))

pub decimal-length : (n : ℕ) → length (decimal n) ≤ 20
unfolding decimal
decimal-length n = digits-length 20 n
