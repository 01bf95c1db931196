-- A number in decimal: its bytes are digits, and they read as the number.
use Prim.Native.Nat.{ℕ, zero, suc, ◌+◌, ◌-◌, ◌*◌, ◌/◌, ◌%◌, ◌^◌, ◌≤◌, ◌<◌}
use mathlib.Core.Bool.{true, false}
use mathlib.Core.List.{List, [], ◌∷◌, ◌++◌}
use mathlib.Core.Logic.{◌≢◌}
use mathlib.Core.Path.{◌≡◌, refl, ◌∙◌}
use native.Mathlib.Omega.{arith}
use borrow.Author.Tests.{ltb-true, ltb-false, eqb-true, eqb-false, leb-true, le-leb, ne_eqb}
use lib.Dec.{leb, ltb, eqb}
use lib.ListN.{get_or}
use Rattle.basics.specs.Helpers.{All}
use Rattle.basics.proofs.Basics.{by_bool, and_split}
use Rattle.player_bytes.specs.Decimal.{digits, decimal}
use Rattle.player_numbers.specs.Numbers.{is_digit, all_digits, no_leading_zero, value, number}
use Rattle.std.specs.Prelude.{Some}

-- one byte more at the end
digits-snoc : (bs : List ℕ) (b : ℕ) → all_digits bs ≡ true → is_digit b ≡ true → all_digits (bs ++ b ∷ []) ≡ true
unfolding all_digits
digits-snoc [] b h g = rw g
digits-snoc (c ∷ bs) b h g = let p = and_split (is_digit c) (all_digits bs) h in rw p.0 (digits-snoc bs b p.1 g)

value-snoc : (n : ℕ) (bs : List ℕ) (b : ℕ) → value n (bs ++ b ∷ []) ≡ value n bs * 10 + (b - 48)
unfolding value
value-snoc n [] b = refl
value-snoc n (c ∷ bs) b = value-snoc (n * 10 + (c - 48)) bs b

-- the first byte is there, and is not `0`
abbrev Leads : List ℕ → Type 0
Leads bs = get_or bs 0 48 ≢ 48

leads-snoc : (bs : List ℕ) (b : ℕ) → Leads bs → Leads (bs ++ b ∷ [])
leads-snoc [] b h = absurd (h refl)
leads-snoc (c ∷ bs) b h = h

leads-read : (bs : List ℕ) → Leads bs → no_leading_zero bs ≡ true
unfolding no_leading_zero
leads-read [] h = absurd (h refl)
leads-read (b ∷ []) h = refl
leads-read (b ∷ c ∷ bs) h = rw (ne_eqb b 48 h)

last-digit : (n : ℕ) → is_digit (48 + n % 10) ≡ true
last-digit n = rw (le-leb 48 (48 + n % 10) (omega arith), le-leb (48 + n % 10) 57 (omega arith))

digits-digits : (k n : ℕ) → all_digits (digits k n) ≡ true
unfolding digits all_digits
digits-digits zero n = refl
digits-digits (suc k) n =
    by_bool (ltb n 10)
    (λ e. rw e (digits-snoc [] (48 + n % 10) refl (last-digit n)))
    (λ e. rw e (digits-snoc (digits k (n / 10)) (48 + n % 10) (digits-digits k (n / 10)) (last-digit n)))

pub decimal-digits : (n : ℕ) → all_digits (decimal n) ≡ true
unfolding decimal
decimal-digits n = digits-digits 20 n

-- no byte is c
abbrev pub Lacks : ℕ → List ℕ → Type 0
Lacks c bs = All (λ b. eqb b c ≡ false) bs

-- a byte below 48, as a comma and a line's end, is no digit
digits-lack : (c : ℕ) → c < 48 → (bs : List ℕ) → all_digits bs ≡ true → Lacks c bs
unfolding all_digits All
digits-lack c l [] h = tt
digits-lack c l (b ∷ bs) h =
    let p = and_split (is_digit b) (all_digits bs) h in
    let q = leb-true 48 b (and_split (leb 48 b) (leb b 57) p.0).0 in
    (ne_eqb b c (λ e. omega arith), digits-lack c l bs p.1)

pub decimal-lacks : (c n : ℕ) → c < 48 → Lacks c (decimal n)
decimal-lacks c n l = digits-lack c l (decimal n) (decimal-digits n)

pub digits_value : (k n : ℕ) → n < 10 ^ k → value 0 (digits k n) ≡ n
unfolding digits value
digits_value zero n h = omega arith
digits_value (suc k) n h =
    by_bool (ltb n 10)
    (λ e. let l = ltb-true n 10 e in rw e (omega arith))
    (λ e. rw e (value-snoc 0 (digits k (n / 10)) (48 + n % 10) ∙ rw (digits_value k (n / 10) (omega arith)) (omega arith)))

digits-lead : (k n : ℕ) → 1 ≤ n → n < 10 ^ k → Leads (digits k n)
unfolding digits
digits-lead zero n l h = absurd (omega arith)
digits-lead (suc k) n l h =
    by_bool (ltb n 10)
    (λ e. let s = ltb-true n 10 e in rw e (λ z. omega arith))
    (λ e. let s = ltb-false n 10 e in rw e (leads-snoc (digits k (n / 10)) (48 + n % 10) (digits-lead k (n / 10) (omega arith) (omega arith))))

no-leading-zero : (n : ℕ) → n ≤ 999 → no_leading_zero (decimal n) ≡ true
unfolding decimal digits no_leading_zero
no-leading-zero n h =
    by_bool (eqb n 0)
    (λ e. rw (eqb-true n 0 e))
    (λ e. let z = eqb-false n 0 e in leads-read (digits 20 n) (digits-lead 20 n (omega arith) (omega arith)))

decimal-value : (n : ℕ) → n ≤ 999 → value 0 (decimal n) ≡ n
unfolding decimal
decimal-value n h = digits_value 20 n (omega arith)

pub number_read : (n : ℕ) → n ≤ 999 → number (decimal n) ≡ Some n
unfolding number
number_read n h = rw (no-leading-zero n h, decimal-digits n, decimal-value n h, le-leb n 999 h)
