-- Laws of the sum that every accepted delivery makes smaller: messages appended and taken off, a row of remembered inquires exchanged.
use Prim.Native.Nat.{ℕ, zero, suc, ◌+◌, ◌*◌, ◌≤◌, ◌<◌}
use mathlib.Core.Path.{◌≡◌, refl, sym}
use mathlib.Core.Logic.{◌≢◌}
use mathlib.Core.Bool.{Bool, not}
use mathlib.Core.List.{List, [], ◌∷◌, ◌++◌}
use mathlib.Core.Option.{some}
use native.Mathlib.Omega.{arith}
use lib.Dec.{eqb, leb}
use lib.ListN.{length}
use borrow.Author.Tests.{eqb-true, eqb-false, leb-true, leb-false}
use Rattle.basics.specs.Helpers.{count, first, without_first}
use Rattle.basics.proofs.Basics.{by_bool, count_none}
use Rattle.basics.proofs.Lists.{indicator}
use Rattle.rig.specs.declared.Message.{Message}
use Rattle.rig.specs.Limits.{site_limit, blank_row, SiteNumber}
use Rattle.rig.specs.Messages.{REQUEST, RELEASE, INQUIRE, YIELD}
use Rattle.model.specs.Tables.{at, put}
use Rattle.model.specs.Settling.{weight_limit, weight, weights, remembered_in, remembered_up_to}
use Rattle.model.proofs.Tables.{length-put, at-put-same, at-put-other, at-past, at_same}

-- Messages

weight-high : (m : Message) → weight m ≤ weight_limit
unfolding weight
weight-high m =
    by_bool (eqb m.kind REQUEST) (λ a. rw a (omega arith))
    (λ a. by_bool (eqb m.kind RELEASE) (λ b. by_bool (eqb m.about 0) (λ c. rw (a, b, c) (omega arith)) (λ c. rw (a, b, c) (omega arith)))
    (λ b. by_bool (eqb m.kind INQUIRE) (λ c. rw (a, b, c) (omega arith))
    (λ c. by_bool (eqb m.kind YIELD) (λ d. rw (a, b, c, d) (omega arith)) (λ d. rw (a, b, c, d) (omega arith)))))

pub weights-append : (xs ys : List Message) → weights (xs ++ ys) ≡ weights xs + weights ys
unfolding weights
weights-append [] ys = omega arith
weights-append (x ∷ xs) ys = let ih = weights-append xs ys in omega arith

pub weights-high : (ms : List Message) → weights ms ≤ weight_limit * length ms
unfolding weights
weights-high [] = omega arith
weights-high (m ∷ ms) = let ih = weights-high ms in let w = weight-high m in omega arith

-- a message taken off, and what stays
pub weights-without : (p : Message → Bool) (ms : List Message) (m : Message) → first p ms ≡ some m → weight m + weights (without_first p ms) ≡ weights ms
unfolding first without_first weights
weights-without p [] m e = let z : ◌≡◌ {A = ℕ} 0 1 = cc in absurd (omega arith)
weights-without p (x ∷ ms) m e =
    by_bool (p x)
    (λ t. let w : x ≡ m = cc in rw (t, w))
    (λ t. let ih = weights-without p ms m (rw t at e) in rw t (omega arith))

-- Remembered inquires

-- one site more
count-more : (p : ℕ → Bool) (n : ℕ) → count p (suc n) ≡ count p n + indicator (p (suc n))
unfolding count
count-more p n = by_bool (p (suc n)) (λ e. rw e (omega arith)) (λ e. rw e (omega arith))

count-high : (p : ℕ → Bool) (n : ℕ) → count p n ≤ n
unfolding count
count-high p zero = omega arith
count-high p (suc n) = let ih = count-high p n in by_bool (p (suc n)) (λ e. rw e (omega arith)) (λ e. rw e (omega arith))

-- two tests that agree on all sites but j
module _ (p q : ℕ → Bool) (j : ℕ) (same : (k : ℕ) → k ≢ j → q k ≡ p k) where
  count-below : (n : ℕ) → n < j → count q n ≡ count p n
  unfolding count
  count-below zero h = refl
  count-below (suc n) h = rw (same (suc n) (λ e. omega arith), count-below n (omega arith))

  count-changed : (n : ℕ) → 1 ≤ j → j ≤ n → count q n + indicator (p j) ≡ count p n + indicator (q j)
  count-changed zero lo hi = absurd (omega arith)
  count-changed (suc n) lo hi =
      rw (count-more p n, count-more q n)
      (by_bool (eqb j (suc n))
      (λ e. let w = eqb-true j (suc n) e in let b = count-below n (omega arith) in rw (← w) (omega arith))
      (λ e. let ne = eqb-false j (suc n) e in let ih = count-changed n lo (omega arith) in rw (same (suc n) (λ z. ne (sym z))) (omega arith)))

pub row-high : (row : List ℕ) → remembered_in row ≤ site_limit
unfolding remembered_in
row-high row = count-high _ site_limit

pub row-empty : (row : List ℕ) → ((j : ℕ) → at 0 row j ≡ 0) → remembered_in row ≡ 0
unfolding remembered_in
row-empty row h = count_none _ site_limit (λ j. rw (h j))

pub row-blank : remembered_in blank_row ≡ 0
row-blank = row-empty blank_row (λ j. at_same {A = ℕ} 0 site_limit j)

-- 1 for an entry that is not 0
abbrev pub mark : ℕ → ℕ
mark n = indicator (not (eqb n 0))

-- what is stored is read, or nothing where the row is too short
mark-put : (row : List ℕ) (j v : ℕ) → 1 ≤ j → mark (at 0 (put row j v) j) ≤ mark v
mark-put row j v lo =
    by_bool (leb j (length row))
    (λ e. rw (at-put-same {A = ℕ} 0 row j v lo (leb-true _ _ e)) (omega arith))
    (λ e. rw (at-past {A = ℕ} 0 (put row j v) j (rw (length-put row j v) (leb-false _ _ e))) (omega arith))

-- a row with one entry exchanged
pub row-changed : (row : List ℕ) (j v : ℕ) → SiteNumber j → remembered_in (put row j v) + mark (at 0 row j) ≤ remembered_in row + mark v
unfolding remembered_in
row-changed row j v r =
    let w = mark-put row j v r.low in
    let c = count-changed (λ i. not (eqb (at 0 row i) 0)) (λ i. not (eqb (at 0 (put row j v) i) 0)) j (λ k ne. rw (at-put-other {A = ℕ} 0 row j v k ne)) site_limit r.low r.high in
    omega arith

-- a table with one row exchanged
module _ (table : List (List ℕ)) (s : ℕ) (row : List ℕ) where
  rows-below : (n : ℕ) → n < s → remembered_up_to (put table s row) n ≡ remembered_up_to table n
  unfolding remembered_up_to
  rows-below zero h = refl
  rows-below (suc n) h = rw (rows-below n (omega arith), at-put-other [] table s row (suc n) (λ e. omega arith))

  row_put : 1 ≤ s → remembered_in (at [] (put table s row) s) ≤ remembered_in row
  row_put lo =
      by_bool (leb s (length table))
      (λ e. rw (at-put-same [] table s row lo (leb-true _ _ e)) (omega arith))
      (λ e. rw (at-past [] (put table s row) s (rw (length-put table s row) (leb-false _ _ e))) (omega (arith, row-empty [] (λ j. at_same {A = ℕ} 0 0 j))))

  pub rows-changed : (n : ℕ) → 1 ≤ s → s ≤ n → remembered_up_to (put table s row) n + remembered_in (at [] table s) ≤ remembered_up_to table n + remembered_in row
  unfolding remembered_up_to
  rows-changed zero lo hi = absurd (omega arith)
  rows-changed (suc n) lo hi =
      by_bool (eqb s (suc n))
      (λ e. let w = eqb-true s (suc n) e in let b = rows-below n (omega arith) in let c = row_put lo in rw (← w) (omega arith))
      (λ e. let ne = eqb-false s (suc n) e in let ih = rows-changed n lo (omega arith) in rw (at-put-other [] table s row (suc n) (λ z. ne (sym z))) (omega arith))
