-- A set that is made of a test has the sites that pass it.
use Prim.Native.Nat.{ℕ, zero, suc, ◌+◌, ◌-◌, ◌*◌, ◌/◌, ◌%◌, ◌^◌, ◌≤◌, ◌<◌}
use mathlib.Core.Path.{◌≡◌, refl, sym, ◌∙◌}
use mathlib.Core.Bool.{Bool, true, false, ◌||◌, cond}
use native.Mathlib.Nat.{mul_assoc, pow-suc, mul-add-div_right, mul-add-mod_self_right}
use native.Mathlib.Omega.{arith}
use lib.Dec.{eqb}
use lib.Pow.{pow_pos, pow-add, high}
use borrow.Author.Tests.{eqb-true, eqb-false, eq-eqb, ne_eqb}
use Rattle.model.specs.Sets.{member, set_of}
use Rattle.basics.proofs.Basics.{by_bool}
use Rattle.family_sets.proofs.Bounds.{set_below}

abbrev bit : Bool → ℕ
bit b = cond b 1 0

-- the site n + 1 of a set as its highest digit
top-first : (p : ℕ → Bool) (n : ℕ) → set_of p (suc n) ≡ bit (p (suc n)) * 2 ^ n + set_of p n
unfolding set_of
top-first p n = by_bool (p (suc n)) (λ t. rw t (omega arith)) (λ t. rw t (omega arith))

-- a higher digit leaves a lower one
lower : (b s n i : ℕ) → i < n → (b * 2 ^ n + s) / 2 ^ i % 2 ≡ s / 2 ^ i % 2
lower b s n i h = let e : n ≡ suc (n - suc i) + i = omega arith in rw e (by-distance (n - suc i))
  where
    by-distance : (d : ℕ) → (b * 2 ^ (suc d + i) + s) / 2 ^ i % 2 ≡ s / 2 ^ i % 2
    by-distance d =
        rw (pow-add 2 (suc d) i, ← mul_assoc, mul-add-div_right (pow_pos i), pow-suc 2 d, ← mul_assoc, mul-add-mod_self_right)

bit-small : (b : Bool) → bit b % 2 ≡ bit b
bit-small true = refl
bit-small false = refl

digit : (p : ℕ → Bool) (n i : ℕ) → i < n → set_of p n / 2 ^ i % 2 ≡ bit (p (suc i))
digit p zero i h = absurd (omega arith)
digit p (suc n) i h =
    by_bool (eqb i n)
    (λ e. rw (eqb-true i n e, top-first p n, high (bit (p (suc n))) n (set_below p n)) (bit-small (p (suc n))))
    (λ e.
    let ne = eqb-false i n e in
    let l : i < n = omega arith in
    rw (top-first p n) (lower (bit (p (suc n))) (set_of p n) n i l) ∙ digit p n i l)

pub member_of : (p : ℕ → Bool) (n k : ℕ) → 1 ≤ k → k ≤ n → member (set_of p n) k ≡ p k
unfolding member
member_of p n zero a b = absurd (omega arith)
member_of p n (suc i) a b = rw (digit p n i (omega arith)) (test (p (suc i)))
  where
    test : (b : Bool) → eqb (bit b) 1 ≡ b
    test true = refl
    test false = refl

-- the same set by another test that tells the same of each site
set_same : (p q : ℕ → Bool) (n : ℕ) → ((k : ℕ) → 1 ≤ k → k ≤ n → p k ≡ q k) → set_of p n ≡ set_of q n
unfolding set_of
set_same p q zero h = refl
set_same p q (suc i) h = rw (set_same p q i (λ k a b. h k a (omega arith)), h (suc i) (omega arith) (omega arith))

-- one site more that was not in the set
pub set-with : (p : ℕ → Bool) (n m : ℕ) → 1 ≤ m → m ≤ n → p m ≡ false → set_of (λ k. p k || eqb k m) n ≡ set_of p n + 2 ^ (m - 1)
unfolding set_of
set-with p zero m a b f = absurd (omega arith)
set-with p (suc i) m a b f =
    by_bool (eqb m (suc i))
    (λ t. let e = eqb-true m (suc i) t in
    let g : p (suc i) ≡ false = rw (← e) f in
    let w : set_of (λ k. p k || eqb k m) i ≡ set_of p i = set_same (λ k. p k || eqb k m) p i (λ k c d. rw (ne_eqb k m (λ z. omega arith)) (or-false (p k))) in
    let s : m - 1 ≡ i = omega arith in
    rw (w, g, eq-eqb (suc i) m (sym e), s) (omega arith))
    (λ t. let ne = eqb-false m (suc i) t in
    let w = set-with p i m a (omega arith) f in
    rw (w, ne_eqb (suc i) m (λ z. ne (sym z)), or-false (p (suc i))) (omega arith))
  where
    or-false : (b : Bool) → b || false ≡ b
    or-false true = refl
    or-false false = refl
