-- Laws of the definitions of specs/Tables: an entry read by its site's number, and tests over the sites 1 to n.
use Prim.Native.Nat.{ℕ, zero, suc, ◌-◌, ◌≤◌, ◌<◌}
use mathlib.Core.Path.{◌≡◌, refl, ◌∙◌, ap}
use mathlib.Core.Logic.{◌≢◌}
use mathlib.Core.List.{List, []}
use native.Mathlib.Omega.{arith}
use lib.Dec.{eqb}
use lib.ListN.{length, get_or, set, replicate, length-set, get_or-eq_default}
use lib.Seq.{get_or-set_same, get_or-set_other, set-get_or}
use borrow.Author.Tests.{eqb-true, eqb-false}
use Rattle.basics.specs.Helpers.{update}
use Rattle.model.specs.Tables.{at, put, cell}
use Rattle.basics.proofs.Basics.{by_bool}

module _ {A : Type 0} where
  -- the code's index of site k is k - 1
  pub at_read : (d : A) (l : List A) (k : ℕ) → 1 ≤ k → at d l k ≡ get_or l (k - 1) d
  unfolding at
  at_read d l zero h = absurd (omega arith)
  at_read d l (suc i) h = let e : i ≡ suc i - 1 = omega arith in ap (λ (j : ℕ). get_or l j d) e

  pub put-write : (l : List A) (k : ℕ) (v : A) → 1 ≤ k → put l k v ≡ set l (k - 1) v
  unfolding put
  put-write l zero v h = absurd (omega arith)
  put-write l (suc i) v h = let e : i ≡ suc i - 1 = omega arith in ap (λ (j : ℕ). set l j v) e

  pub length-put : (l : List A) (k : ℕ) (v : A) → length (put l k v) ≡ length l
  unfolding put
  length-put l zero v = refl
  length-put l (suc i) v = length-set l i v

  -- what stands where after a store
  pub at-put-same : (d : A) (l : List A) (k : ℕ) (v : A) → 1 ≤ k → k ≤ length l → at d (put l k v) k ≡ v
  unfolding at put
  at-put-same d l zero v a b = absurd (omega arith)
  at-put-same d l (suc i) v a b = get_or-set_same l i v d b

  pub at-put-other : (d : A) (l : List A) (k : ℕ) (v : A) (i : ℕ) → i ≢ k → at d (put l k v) i ≡ at d l i
  unfolding at put
  at-put-other d l zero v i ne = refl
  at-put-other d l (suc k) v zero ne = refl
  at-put-other d l (suc k) v (suc i) ne = get_or-set_other l k i v d (λ e. ne (ap suc e))

  -- a list after a store, as a table that is a function
  pub at-put : (d : A) (l : List A) (k : ℕ) (v : A) → 1 ≤ k → k ≤ length l → (i : ℕ) → at d (put l k v) i ≡ update (at d l) k v i
  unfolding update
  at-put d l k v a b i =
      by_bool (eqb i k)
      (λ e. rw (e, eqb-true i k e) (at-put-same d l k v a b))
      (λ e. rw e (at-put-other d l k v i (eqb-false i k e)))

  -- what stands there already is stored
  pub put_self : (d : A) (l : List A) (k : ℕ) → put l k (at d l k) ≡ l
  unfolding at put
  put_self d l zero = refl
  put_self d l (suc i) = set-get_or l i d

  -- past a list's end
  pub at-past : (d : A) (l : List A) (k : ℕ) → length l < k → at d l k ≡ d
  unfolding at
  at-past d l zero h = refl
  at-past d l (suc i) h = get_or-eq_default l d (omega arith)

  -- a list of one value
  pub at_same : (d : A) (n k : ℕ) → at d (replicate n d) k ≡ d
  unfolding at
  at_same d n zero = refl
  at_same d n (suc i) = all-same-value n i
    where
      all-same-value : (m i : ℕ) → get_or (replicate m d) i d ≡ d
      all-same-value zero i = refl
      all-same-value (suc m) zero = refl
      all-same-value (suc m) (suc i) = all-same-value m i

-- a column of a table after row b was stored
pub cell-put : (t : List (List ℕ)) (b : ℕ) (row : List ℕ) → 1 ≤ b → b ≤ length t → (j k : ℕ) → cell (put t b row) k j ≡ update (λ i. cell t i j) b (at 0 row j) k
unfolding cell update
cell-put t b row lo hi j k =
    by_bool (eqb k b)
    (λ e. rw (e, eqb-true k b e, at-put-same [] t b row lo hi))
    (λ e. rw (e, at-put-other [] t b row k (eqb-false k b e)))

-- a table whose every row is as long as there are places for sites
pub record Square (n : ℕ) (t : List (List ℕ)) : Type 0 where
  pub rows : length t ≡ n
  pub columns : (k : ℕ) → 1 ≤ k → k ≤ n → length (at [] t k) ≡ n

pub square-put : (n : ℕ) (t : List (List ℕ)) (k : ℕ) (r : List ℕ) → Square n t → 1 ≤ k → k ≤ n → length r ≡ n → Square n (put t k r)
square-put n t k r s a b e = record {
  rows = length-put t k r ∙ s.rows;
  columns = λ i c d. by_bool (eqb i k)
      (λ q. let w = eqb-true i k q in rw w (rw (at-put-same [] t k r a (omega (arith, s.rows))) e))
      (λ q. rw (at-put-other [] t k r i (eqb-false i k q)) (s.columns i c d));
}
