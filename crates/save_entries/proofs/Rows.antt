-- A row of a table: its entries as numbers, how many they are, and the row that they give back.
use Prim.Native.Nat.{ℕ, zero, suc, ◌≤◌, ◌<◌}
use mathlib.Core.Bool.{Bool, true, false}
use mathlib.Core.List.{List, [], ◌++◌, append_assoc, append-nil}
use mathlib.Core.Path.{◌≡◌, refl, ◌∙◌}
use native.Mathlib.Omega.{arith}
use lib.Dec.{eqb}
use lib.ListN.{length, take, replicate, length-append}
use lib.Seq.{take-suc, take_all, get_or_at}
use borrow.Author.Tests.{eqb-true, eqb-false}
use Rattle.basics.specs.Helpers.{count, All}
use Rattle.basics.proofs.Basics.{by_bool, count_same}
use Rattle.basics.proofs.Lists.{all_append}
use Rattle.rig.specs.Limits.{site_limit}
use Rattle.model.specs.Tables.{at}
use Rattle.save_fields.specs.Fields.{nth}
use Rattle.save_entries.specs.Entries.{entries_up_to, entries, row_up_to, row_from}

-- as many entries as sites pass
pub entries-count : (p : ℕ → Bool) (row : List ℕ) (n : ℕ) → length (entries_up_to p row n) ≡ count p n
unfolding entries_up_to count
entries-count p row zero = refl
entries-count p row (suc n) =
    let l = entries-count p row n in
    by_bool (p (suc n))
    (λ e. rw (e, length-append) (omega arith))
    (λ e. rw (e, append-nil) l)

pub entries-within : (p : ℕ → Bool) (row : List ℕ) (n : ℕ) → length (entries_up_to p row n) ≤ n
unfolding entries_up_to
entries-within p row zero = omega arith
entries-within p row (suc n) =
    let l = entries-within p row n in
    by_bool (p (suc n))
    (λ e. rw (e, length-append) (omega arith))
    (λ e. rw (e, append-nil) (omega arith))

-- no more pass than there are
pub passed-within : (p : ℕ → Bool) (n : ℕ) → count p n ≤ n
passed-within p n = rw (← (entries-count p [] n)) (entries-within p [] n)

pub entries-short : (p : ℕ → Bool) (row : List ℕ) → length (entries p row) ≤ site_limit
unfolding entries
entries-short p row = entries-within p row site_limit

-- what holds of every entry at a place that passes holds of all of them
entries-all :
    (P : ℕ → Type 0) (p : ℕ → Bool) (row : List ℕ) (n : ℕ)
    → ((i : ℕ) → 1 ≤ i → i ≤ n → p i ≡ true → P (at 0 row i))
    → All P (entries_up_to p row n)
unfolding entries_up_to All
entries-all P p row zero h = tt
entries-all P p row (suc n) h =
    let a = entries-all P p row n (λ i x y e. h i x (omega arith) e) in
    by_bool (p (suc n))
    (λ e. rw e (all_append P (entries_up_to p row n) _ a (h (suc n) (omega arith) (omega arith) e, tt)))
    (λ e. rw (e, append-nil) a)

pub entries-bound :
    (b : ℕ) (p : ℕ → Bool) (row : List ℕ)
    → ((i : ℕ) → 1 ≤ i → i ≤ site_limit → p i ≡ true → at 0 row i ≤ b)
    → All (λ n. n ≤ b) (entries p row)
unfolding entries
entries-bound b p row h = entries-all (λ n. n ≤ b) p row site_limit h

-- Two tests that agree on the sites.

module _ (p q : ℕ → Bool) where
  entries-agree : (row : List ℕ) (n : ℕ) → ((i : ℕ) → 1 ≤ i → i ≤ n → p i ≡ q i) → entries_up_to p row n ≡ entries_up_to q row n
  unfolding entries_up_to
  entries-agree row zero h = refl
  entries-agree row (suc n) h = rw (entries-agree row n (λ i a b. h i a (omega arith)), h (suc n) (omega arith) (omega arith))

  row-agree : (ns : List ℕ) (n : ℕ) → ((i : ℕ) → 1 ≤ i → i ≤ n → p i ≡ q i) → row_up_to p ns n ≡ row_up_to q ns n
  unfolding row_up_to
  row-agree ns zero h = refl
  row-agree ns (suc n) h =
      let below : (i : ℕ) → 1 ≤ i → i ≤ n → p i ≡ q i = λ i a b. h i a (omega arith) in
      rw (row-agree ns n below, h (suc n) (omega arith) (omega arith), count_same p q n below)

  pub entries-same : (row : List ℕ) → ((i : ℕ) → 1 ≤ i → i ≤ site_limit → p i ≡ q i) → entries p row ≡ entries q row
  unfolding entries
  entries-same row h = entries-agree row site_limit h

  pub row_same : (ns : List ℕ) → ((i : ℕ) → 1 ≤ i → i ≤ site_limit → p i ≡ q i) → row_from p ns ≡ row_from q ns
  unfolding row_from
  row_same ns h = row-agree ns site_limit h

-- The row back from its entries.

module _ (p : ℕ → Bool) (row : List ℕ) where
  -- the entry of site i + 1 stands behind those of the sites that pass before it
  entry_at : (n i : ℕ) (rest : List ℕ) → i < n → p (suc i) ≡ true → nth (entries_up_to p row n ++ rest) (count p i) ≡ at 0 row (suc i)
  unfolding entries_up_to
  entry_at zero i rest h e = absurd (omega arith)
  entry_at (suc n) i rest h e =
      by_bool (eqb i n)
      (λ q. let w = eqb-true i n q in
      rw (← w, e, append_assoc) (get_or_at (entries_up_to p row i) (at 0 row (suc i)) rest 0 (count p i) (entries-count p row i)))
      (λ q. let ne = eqb-false i n q in rw append_assoc (entry_at n i _ (omega arith) e))

  -- the first n, where every entry that is not written is 0
  back-up-to : (ns : List ℕ) (n : ℕ) → n ≤ length row
      → ((i : ℕ) → i < n → p (suc i) ≡ true → nth ns (count p i) ≡ at 0 row (suc i))
      → ((i : ℕ) → 1 ≤ i → i ≤ n → p i ≡ false → at 0 row i ≡ 0)
      → row_up_to p ns n ≡ take n row
  unfolding row_up_to at
  back-up-to ns zero l f g = refl
  back-up-to ns (suc n) l f g =
      rw (back-up-to ns n (omega arith) (λ i a e. f i (omega arith) e) (λ i a b e. g i a (omega arith) e), take-suc row n 0 (omega arith))
      (by_bool (p (suc n))
      (λ e. rw (e, f n (omega arith) e))
      (λ e. rw (e, g (suc n) (omega arith) (omega arith) e)))

  -- the whole row
  pub row-back-within :
      (k : ℕ)
      → length row ≡ site_limit
      → ((i : ℕ) → 1 ≤ i → i ≤ site_limit → p i ≡ false → at 0 row i ≡ 0)
      → row_from p (entries p row ++ replicate k 0) ≡ row
  unfolding row_from entries
  row-back-within k l g =
      back-up-to (entries_up_to p row site_limit ++ replicate k 0) site_limit (omega arith) (λ i h e. entry_at site_limit i (replicate k 0) h e) g
      ∙ take_all site_limit row (omega arith)
