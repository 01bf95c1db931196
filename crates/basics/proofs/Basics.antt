-- Small laws of tests, tables and counts that the proofs share.
use Prim.Native.Nat.{ℕ, zero, suc, ◌+◌, ◌≤◌, ◌<◌}
use mathlib.Core.Path.{◌≡◌, refl, sym, ap, fun_ext}
use mathlib.Core.Logic.{◌⊎◌, inl, inr, ⊎_elim, ◌≢◌}
use mathlib.Core.Bool.{Bool, true, false, not, ◌&&◌, ◌||◌}
use native.Mathlib.Omega.{arith}
use native.Mathlib.Nat.{not-suc-le-zero}
use native.Mathlib.Numerals.{add-one}
use lib.Dec.{eqb}
use borrow.Author.Tests.{eqb-true, eqb-false, eq-eqb, ne_eqb}
use Rattle.basics.specs.Helpers.{update, all, any, count, lowest}

-- the case split on a test, with its equation
pub by_bool {ℓ} : {C : Type ℓ} (b : Bool) → (b ≡ true → C) → (b ≡ false → C) → C
by_bool true f g = f refl
by_bool false f g = g refl

-- a test cannot come out both ways
pub clash {ℓ} : {C : Type ℓ} (b : Bool) → b ≡ true → b ≡ false → C
clash b p q = let z : ◌≡◌ {A = ℕ} 0 1 = cc in absurd (omega arith)

pub and_split : (a b : Bool) → a && b ≡ true → (a ≡ true) × (b ≡ true)
and_split true b e = (refl, e)
and_split false b e = clash false e refl

-- a test that comes second and fails
pub and_second : (a b : Bool) → b ≡ false → a && b ≡ false
and_second true b e = e
and_second false b e = refl

pub or-either : (a b : Bool) → a || b ≡ true → (a ≡ true) ⊎ (b ≡ true)
or-either true b e = inl refl
or-either false b e = inr e

pub or-second : (a b : Bool) → b ≡ true → a || b ≡ true
or-second true b e = refl
or-second false b e = e

pub or-none : (a b : Bool) → a || b ≡ false → (a ≡ false) × (b ≡ false)
or-none true b e = clash true refl e
or-none false b e = (refl, e)

pub and-true : (a b : Bool) → a ≡ true → b ≡ true → a && b ≡ true
and-true a b e f = rw (e, f)

pub not-of : (a : Bool) → a ≡ false → not a ≡ true
not-of a e = rw e

-- Tables

pub update_same {ℓ} : {A : Type ℓ} (f : ℕ → A) (i : ℕ) (v : A) → update f i v i ≡ v
unfolding update
update_same f i v = rw (eq-eqb i i refl)

pub update_other {ℓ} : {A : Type ℓ} (f : ℕ → A) (i : ℕ) (v : A) (j : ℕ) → j ≢ i → update f i v j ≡ f j
unfolding update
update_other f i v j h = rw (ne_eqb j i h)

-- two updates at one place
pub update-update : {A : Type 0} (f : ℕ → A) (i : ℕ) (a b : A) → update (update f i a) i b ≡ update f i b
unfolding update
update-update f i a b = fun_ext (λ k. by_bool (eqb k i) (λ e. rw e) (λ e. rw e))

-- a mark that is set already
pub update-marked : (f : ℕ → Bool) (b : ℕ) → f b ≡ true → update f b true ≡ f
unfolding update
update-marked f b e = fun_ext (λ k. by_bool (eqb k b) (λ u. rw (u, eqb-true k b u) (sym e)) (λ u. rw u))

-- Tests of the sites 1 to n

pub all-at : (f : ℕ → Bool) (n i : ℕ) → all f n ≡ true → 1 ≤ i → i ≤ n → f i ≡ true
unfolding all
all-at f zero i e l u = absurd (omega arith)
all-at f (suc n) i e l u =
    let p = and_split (all f n) (f (suc n)) e in
    by_bool (eqb i (suc n))
    (λ q. rw (eqb-true i (suc n) q) p.1)
    (λ q. let ne = eqb-false i (suc n) q in all-at f n i p.0 l (omega arith))

pub all-false : (f : ℕ → Bool) (n : ℕ) → all f n ≡ false → (i : ℕ) × (1 ≤ i) × (i ≤ n) × (f i ≡ false)
unfolding all
all-false f zero e = clash true refl e
all-false f (suc n) e = by_bool (all f n)
    (λ u. (suc n, omega arith, omega arith, rw u at e))
    (λ u. let (i, l, h, w) = all-false f n u in (i, l, omega arith, w))

-- what each passes, all pass
pub all_of : (p : ℕ → Bool) (n : ℕ) → ((k : ℕ) → 1 ≤ k → k ≤ n → p k ≡ true) → all p n ≡ true
unfolding all
all_of p zero h = refl
all_of p (suc n) h = rw (all_of p n (λ k a b. h k a (omega arith)), h (suc n) (omega arith) (omega arith))

-- one that fails fails all
pub all-fails : (p : ℕ → Bool) (n k : ℕ) → 1 ≤ k → k ≤ n → p k ≡ false → all p n ≡ false
all-fails p n k a b e = by_bool (all p n) (λ t. clash (p k) (all-at p n k t a b) e) (λ t. t)

-- one more, as a loop's turn has it
pub all_more : (p : ℕ → Bool) (i : ℕ) → all p i ≡ true → p (suc i) ≡ true → all p (i + 1) ≡ true
unfolding all
all_more p i a b = rw (add-one, a, b)

-- of two tests that agree on 1 to n
pub all_same : (p q : ℕ → Bool) (n : ℕ) → ((k : ℕ) → 1 ≤ k → k ≤ n → p k ≡ q k) → all p n ≡ all q n
unfolding all
all_same p q zero h = refl
all_same p q (suc n) h = rw (all_same p q n (λ k a b. h k a (omega arith)), h (suc n) (omega arith) (omega arith))

-- two tests at once
pub all_both : (p q : ℕ → Bool) (n : ℕ) → all (λ k. p k && q k) n ≡ all p n && all q n
unfolding all
all_both p q zero = refl
all_both p q (suc n) = rw (all_both p q n) (exchange (all p n) (all q n) (p (suc n)) (q (suc n)))
  where
    exchange : (a b c d : Bool) → (a && b) && (c && d) ≡ (a && c) && (b && d)
    exchange true true c d = refl
    exchange true false c d = sym (and_second c false refl)
    exchange false b c d = refl

pub any_at : (p : ℕ → Bool) (n : ℕ) → any p n ≡ true → (k : ℕ) × (1 ≤ k) × (k ≤ n) × (p k ≡ true)
unfolding any
any_at p zero e = clash false e refl
any_at p (suc n) e =
    ⊎_elim
    (λ h. let w = any_at p n h in (w.0, w.1, omega arith, w.3))
    (λ h. (suc n, omega arith, omega arith, h))
    (or-either (any p n) (p (suc n)) e)

pub any_of : (p : ℕ → Bool) (n k : ℕ) → 1 ≤ k → k ≤ n → p k ≡ true → any p n ≡ true
unfolding any
any_of p zero k a b e = absurd (omega arith)
any_of p (suc n) k a b e =
    by_bool (eqb k (suc n))
    (λ q. or-second (any p n) (p (suc n)) (rw (eqb-true k (suc n) q) at e))
    (λ q. let ne = eqb-false k (suc n) q in rw (any_of p n k a (omega arith) e))

pub any_none : (p : ℕ → Bool) (n : ℕ) → ((k : ℕ) → 1 ≤ k → k ≤ n → p k ≡ false) → any p n ≡ false
any_none p n h = by_bool (any p n) (λ t. let w = any_at p n t in clash (p w.0) w.3 (h w.0 w.1 w.2)) (λ t. t)

pub lowest-none : (p : ℕ → Bool) (n : ℕ) → ((k : ℕ) → 1 ≤ k → k ≤ n → p k ≡ false) → lowest p n ≡ 0
unfolding lowest
lowest-none p zero h = refl
lowest-none p (suc n) h = rw (lowest-none p n (λ k f g. h k f (omega arith)), h (suc n) (omega arith) (omega arith))

-- of two tests that agree on 1 to n
pub lowest-same : (p q : ℕ → Bool) (n : ℕ) → ((k : ℕ) → 1 ≤ k → k ≤ n → p k ≡ q k) → lowest p n ≡ lowest q n
unfolding lowest
lowest-same p q zero h = refl
lowest-same p q (suc n) h = rw (lowest-same p q n (λ k f g. h k f (omega arith)), h (suc n) (omega arith) (omega arith))

-- one more that fails, as a loop's turn has it
pub lowest-more : (p : ℕ → Bool) (i : ℕ) → lowest p i ≡ 0 → p (suc i) ≡ false → lowest p (i + 1) ≡ 0
unfolding lowest
lowest-more p i e f = rw (add-one, e, f)

-- the one after those that fail
pub lowest-found : (p : ℕ → Bool) (i n : ℕ) → lowest p i ≡ 0 → p (suc i) ≡ true → suc i ≤ n → lowest p n ≡ suc i
unfolding lowest
lowest-found p i zero e t h = absurd (omega arith)
lowest-found p i (suc n) e t h =
    by_bool (eqb i n)
    (λ q. let w = eqb-true i n q in rw (← w) (rw (e, t)))
    (λ q. let w = eqb-false i n q in rw (lowest-found p i n e t (omega arith), ne_eqb (suc i) 0 (λ z. omega arith)))

-- it is one of 1 to n, or 0
pub lowest-within : (p : ℕ → Bool) (n r : ℕ) → r ≡ lowest p n → r ≤ n
unfolding lowest
lowest-within p zero r e = omega arith
lowest-within p (suc n) r e =
    let w = lowest-within p n (lowest p n) refl in
    by_bool (eqb (lowest p n) 0)
    (λ z. by_bool (p (suc n)) (λ t. let u = rw (z, t) at e in omega arith) (λ t. let u = rw (z, t) at e in omega arith))
    (λ z. let u = rw z at e in omega arith)

-- r is the lowest of 1 to n that passes
pub record IsLowest (p : ℕ → Bool) (n r : ℕ) : Type 0 where
  pub low : 1 ≤ r
  pub high : r ≤ n
  pub passes : p r ≡ true
  pub below : (k : ℕ) → 1 ≤ k → k < r → p k ≡ false

-- there is one, or none passes
pub lowest-is : (p : ℕ → Bool) (n : ℕ) → IsLowest p n (lowest p n) ⊎ ((lowest p n ≡ 0) × ((k : ℕ) → 1 ≤ k → k ≤ n → p k ≡ false))
unfolding lowest
lowest-is p zero = inr (refl, λ k f g. absurd (omega arith))
lowest-is p (suc n) = go (lowest-is p n)
  where
    go : IsLowest p n (lowest p n) ⊎ ((lowest p n ≡ 0) × ((k : ℕ) → 1 ≤ k → k ≤ n → p k ≡ false))
        → IsLowest p (suc n) (lowest p (suc n)) ⊎ ((lowest p (suc n) ≡ 0) × ((k : ℕ) → 1 ≤ k → k ≤ suc n → p k ≡ false))
    go (inl s) =
        rw (ne_eqb (lowest p n) 0 (λ z. omega (arith, s.low)))
        (inl (record { low = s.low; high = omega (arith, s.high); passes = s.passes; below = s.below }))
    go (inr (z, none)) =
        by_bool (p (suc n))
        (λ t. rw (z, t) (inl (record { low = omega arith; high = omega arith; passes = t; below = λ k f g. none k f (omega arith) })))
        (λ t. rw (z, t) (inr (
          refl,
          λ k f g.
              by_bool (eqb k (suc n)) (λ e. rw (eqb-true k (suc n) e) t) (λ e. let ne = eqb-false k (suc n) e in none k f (omega arith)),
        )))

-- all pass exactly where there is no lowest that fails
pub all-lowest : (p : ℕ → Bool) (n : ℕ) → all p n ≡ eqb (lowest (λ k. not (p k)) n) 0
unfolding all lowest
all-lowest p zero = refl
all-lowest p (suc n) =
    rw (all-lowest p n)
    (by_bool (eqb (lowest (λ k. not (p k)) n) 0)
    (λ z. by_bool (p (suc n)) (λ t. rw (z, t)) (λ t. rw (z, t) (sym (ne_eqb (suc n) 0 (λ w. omega arith)))))
    (λ z. rw z (sym z)))

pub count_same : (p q : ℕ → Bool) (n : ℕ) → ((k : ℕ) → 1 ≤ k → k ≤ n → p k ≡ q k) → count p n ≡ count q n
unfolding count
count_same p q zero h = refl
count_same p q (suc n) h = rw (count_same p q n (λ k f g. h k f (omega arith)), h (suc n) (omega arith) (omega arith))

-- one more passes, j, and the others as before
pub count-without :
    (p q : ℕ → Bool) (n j : ℕ)
    → 1 ≤ j → j ≤ n → p j ≡ false → q j ≡ true
    → ((k : ℕ) → 1 ≤ k → k ≢ j → p k ≡ q k)
    → suc (count p n) ≡ count q n
unfolding count
count-without p q zero j f g a b h = absurd (omega arith)
count-without p q (suc n) j f g a b h =
    by_bool (eqb j (suc n))
    (λ e.
    let w = eqb-true j (suc n) e in
    rw (rw w at a, rw w at b) (ap suc (count_same p q n (λ k x y. h k x (λ z. omega arith)))))
    (λ e.
    let ne = eqb-false j (suc n) e in
    let less = count-without p q n j f (omega arith) a b h in
    rw (h (suc n) (omega arith) (λ z. ne (sym z)))
    (by_bool (q (suc n)) (λ t. rw t (ap suc less)) (λ t. rw t less)))

pub count_none : (f : ℕ → Bool) (n : ℕ) → ((k : ℕ) → f k ≡ false) → count f n ≡ 0
unfolding count
count_none f zero h = refl
count_none f (suc n) h = rw (h (suc n)) (count_none f n h)

pub count-one : (f : ℕ → Bool) (i n : ℕ) → 1 ≤ i → f i ≡ true → ((k : ℕ) → k ≢ i → f k ≡ false) → i ≤ n → count f n ≡ 1
unfolding count
count-one f i zero l e h u = absurd (omega arith)
count-one f i (suc n) l e h u = by_bool (eqb i (suc n))
    (λ q. let w = eqb-true i (suc n) q in rw (← w) (rw e (omega (arith, below n (omega arith)))))
    (λ q. let ne = eqb-false i (suc n) q in rw (h (suc n) (λ z. ne (sym z))) (count-one f i n l e h (omega arith)))
  where
    below : (m : ℕ) → m < i → count f m ≡ 0
    below zero g = refl
    below (suc m) g = rw (h (suc m) (λ z. omega arith)) (below m (omega arith))

-- where all pass
pub count-all : (p : ℕ → Bool) (n : ℕ) → ((k : ℕ) → 1 ≤ k → k ≤ n → p k ≡ true) → count p n ≡ n
unfolding count
count-all p zero h = refl
count-all p (suc n) h = rw (h (suc n) (omega arith) (omega arith)) (ap suc (count-all p n (λ k f g. h k f (omega arith))))

-- of the sites 1 to m + d: those up to m, and the d behind them
pub count-behind : (p : ℕ → Bool) (m d : ℕ) → count p (m + d) ≡ count p m + count (λ k. p (m + k)) d
unfolding count
count-behind p m zero = let e : m + 0 ≡ m = omega arith in rw e (omega arith)
count-behind p m (suc d) =
    let e : m + suc d ≡ suc (m + d) = omega arith in
    let w = count-behind p m d in
    by_bool (p (suc (m + d)))
    (λ t. rw (e, t) (omega arith))
    (λ t. rw (e, t) w)

pub count-some : (f : ℕ → Bool) (n : ℕ) → count f n ≢ 0 → (k : ℕ) × (f k ≡ true)
unfolding count
count-some f zero h = absurd (h refl)
count-some f (suc n) h = by_bool (f (suc n)) (λ e. (suc n, e)) (λ e. count-some f n (rw e at h))

-- of two tests, where what passes the first passes the second: no more pass the first
pub count-within : (p q : ℕ → Bool) (n : ℕ) → ((k : ℕ) → 1 ≤ k → k ≤ n → p k ≡ true → q k ≡ true) → count p n ≤ count q n
unfolding count
count-within p q zero h = omega arith
count-within p q (suc n) h =
    let w = count-within p q n (λ k a b. h k a (omega arith)) in
    by_bool (p (suc n))
    (λ t. rw (t, h (suc n) (omega arith) (omega arith) t) (omega arith))
    (λ t. by_bool (q (suc n)) (λ u. rw (t, u) (omega arith)) (λ u. rw (t, u) w))

-- and if no fewer do, what passes the second passes the first
pub count-filled :
    (p q : ℕ → Bool) (n : ℕ) → ((k : ℕ) → 1 ≤ k → k ≤ n → p k ≡ true → q k ≡ true) → count q n ≤ count p n
    → (k : ℕ) → 1 ≤ k → k ≤ n → q k ≡ true → p k ≡ true
unfolding count
count-filled p q zero h l k a b e = absurd (omega arith)
count-filled p q (suc n) h l k a b e =
    let within : (i : ℕ) → 1 ≤ i → i ≤ n → p i ≡ true → q i ≡ true = λ i c d. h i c (omega arith) in
    let w = count-within p q n within in
    by_bool (p (suc n))
    (λ t. let m = rw (t, h (suc n) (omega arith) (omega arith) t) at l in
    by_bool (eqb k (suc n))
    (λ z. rw (eqb-true k (suc n) z) t)
    (λ z. let ne = eqb-false k (suc n) z in count-filled p q n within (omega arith) k a (omega arith) e))
    (λ t. by_bool (q (suc n))
    (λ u. let m = rw (t, u) at l in absurd (omega arith))
    (λ u. let m = rw (t, u) at l in
    by_bool (eqb k (suc n))
    (λ z. clash (q (suc n)) (rw (eqb-true k (suc n) z) at e) u)
    (λ z. let ne = eqb-false k (suc n) z in count-filled p q n within m k a (omega arith) e)))

-- none pass exactly where not one passes
pub count-any : (p : ℕ → Bool) (n : ℕ) → eqb (count p n) 0 ≡ not (any p n)
unfolding count any
count-any p zero = refl
count-any p (suc n) =
    by_bool (p (suc n))
    (λ t. rw (t, or-second (any p n) true refl) (ne_eqb (suc (count p n)) 0 (λ z. omega arith)))
    (λ t. by_bool (any p n) (λ u. rw (t, u) (rw u at (count-any p n))) (λ u. rw (t, u) (rw u at (count-any p n))))

-- where at most one passes, two that pass are one
pub count-unique : (p : ℕ → Bool) (n k l : ℕ) → count p n ≤ 1 → 1 ≤ k → k ≤ n → p k ≡ true → 1 ≤ l → l ≤ n → p l ≡ true → k ≡ l
unfolding count
count-unique p zero k l h a b e c d f = absurd (omega arith)
count-unique p (suc n) k l h a b e c d f =
    by_bool (p (suc n))
    (λ t. let z = rw t at h in let x = last k z a b e in let y = last l z c d f in omega arith)
    (λ t. count-unique p n k l (rw t at h) a (low t k b e) e c (low t l d f) f)
  where
    -- one that passes is not the last, where that one fails
    low : p (suc n) ≡ false → (m : ℕ) → m ≤ suc n → p m ≡ true → m ≤ n
    low t m b e = by_bool (eqb m (suc n)) (λ q. clash (p m) e (rw (eqb-true m (suc n) q) t)) (λ q. let ne = eqb-false m (suc n) q in omega arith)

    -- it is the last, where none before that one passes
    last : (m : ℕ) → suc (count p n) ≤ 1 → 1 ≤ m → m ≤ suc n → p m ≡ true → m ≡ suc n
    last m h a b e =
        by_bool (eqb m (suc n))
        (λ q. eqb-true m (suc n) q)
        (λ q. let ne = eqb-false m (suc n) q in
        let z = rw (any_of p n m a (omega arith) e) at (count-any p n) in
        absurd (eqb-false (count p n) 0 z (omega arith)))

-- of the marked sites there is one before which no marked site comes
module _ (before : ℕ → ℕ → Bool) (irreflexive : (x : ℕ) → before x x ≡ false) (transitive : (x y z : ℕ) → before x y ≡ true → before y z ≡ true → before x z ≡ true) where
  pub record Least (p : ℕ → Bool) (n : ℕ) : Type 0 where
    pub at : ℕ
    pub site_in_range : at < n
    pub marked : p at ≡ true
    pub first : (j : ℕ) → j < n → p j ≡ true → before j at ≡ false

  pub least : (p : ℕ → Bool) (n : ℕ) → Least p n ⊎ ((j : ℕ) → j < n → p j ≡ false)
  least p zero = inr (λ j l. absurd (not-suc-le-zero l))
  least p (suc n) = go (least p n)
    where
      low : (j : ℕ) → j < suc n → j ≢ n → j < n
      low j l ne = omega arith

      go : Least p n ⊎ ((j : ℕ) → j < n → p j ≡ false) → Least p (suc n) ⊎ ((j : ℕ) → j < suc n → p j ≡ false)
      go (inr nowhere) = by_bool (p n)
          (λ h. inl (record {
            at = n;
            site_in_range = omega arith;
            marked = h;
            first = λ j l m. by_bool (eqb j n)
                (λ q. rw (eqb-true j n q) (irreflexive n))
                (λ q. clash (p j) m (nowhere j (low j l (eqb-false j n q))));
          }))
          (λ h. inr (λ j l. by_bool (eqb j n)
          (λ q. rw (eqb-true j n q) h)
          (λ q. nowhere j (low j l (eqb-false j n q)))))
      go (inl b) = by_bool (p n && before n b.at)
          (λ h. let w = and_split _ _ h in inl (record {
            at = n;
            site_in_range = omega arith;
            marked = w.0;
            first = λ j l m. by_bool (eqb j n)
                (λ q. rw (eqb-true j n q) (irreflexive n))
                (λ q. by_bool (before j n)
                (λ c. clash (before j b.at) (transitive j n b.at c w.1) (b.first j (low j l (eqb-false j n q)) m))
                (λ c. c));
          }))
          (λ h. inl (record {
            at = b.at;
            site_in_range = omega arith;
            marked = b.marked;
            first = λ j l m. by_bool (eqb j n)
                (λ q. let jn = eqb-true j n q in rw jn (rw (rw jn at m) at h))
                (λ q. b.first j (low j l (eqb-false j n q)) m);
          }))
