-- How the numbers of a line and the entries of a row grow in an array of zeros, member by member.
use Prim.Native.Nat.{ℕ, zero, suc, ◌+◌, ◌-◌, ◌<◌}
use mathlib.Core.Bool.{Bool, true, false}
use mathlib.Core.List.{List, [], ◌∷◌, ◌++◌, append_assoc, append-nil}
use mathlib.Core.Path.{◌≡◌, refl, ◌∙◌}
use native.Mathlib.Numerals.{add-one}
use native.Mathlib.Omega.{arith}
use lib.ListN.{length, set, replicate, length-append}
use lib.Seq.{set_at}
use Rattle.basics.specs.Helpers.{count}
use Rattle.rig.specs.Limits.{site_limit}
use Rattle.model.specs.Tables.{at}
use Rattle.save_fields.specs.Fields.{nth}
use Rattle.save_entries.specs.Entries.{entries_up_to, row_up_to}
use Rattle.save_fields.specs.Values.{padded_numbers}

-- zeros behind n places, of which the first is taken
zero-first : (n : ℕ) → n < site_limit → replicate {A = ℕ} (site_limit - n) 0 ≡ 0 ∷ replicate (site_limit - suc n) 0
zero-first n h = let e : site_limit - n ≡ suc (site_limit - suc n) = omega arith in rw e

-- an array with the numbers of a line, and how many they are
abbrev pub IsLine : List ℕ → List ℕ → ℕ → Type 0
IsLine ns numbers n = (numbers ≡ padded_numbers ns) × (n ≡ length ns)

-- one more number, as a turn puts it
pub line-more :
    (ns : List ℕ) (n : ℕ) {numbers after : List ℕ} {m : ℕ}
    → length ns < site_limit
    → IsLine ns numbers m
    → after ≡ set numbers m n
    → IsLine (ns ++ (n ∷ [])) after (m + 1)
line-more ns n h l a =
    let longer : length (ns ++ (n ∷ [])) ≡ suc (length ns) = length-append ns (n ∷ []) ∙ omega arith in
    (a ∙ rw (l.0, l.1, longer, zero-first (length ns) h, append_assoc) (set_at ns 0 _ n (length ns) refl), rw (l.1, longer, add-one))

-- The entries of a row.

module _ (p : ℕ → Bool) (row : List ℕ) (i : ℕ) where
  pub entries-idle : p (suc i) ≡ false → entries_up_to p row (suc i) ≡ entries_up_to p row i
  unfolding entries_up_to
  entries-idle e = rw (e, append-nil)

  pub entries-more : p (suc i) ≡ true → entries_up_to p row (suc i) ≡ entries_up_to p row i ++ (at 0 row (suc i) ∷ [])
  unfolding entries_up_to
  entries-more e = rw e

-- A row.

module _ (p : ℕ → Bool) where
  pub count-idle : (i : ℕ) → p (suc i) ≡ false → count p (suc i) ≡ count p i
  unfolding count
  count-idle i e = rw e

  pub count-more : (i : ℕ) → p (suc i) ≡ true → count p (suc i) ≡ suc (count p i)
  unfolding count
  count-more i e = rw e

module _ (p : ℕ → Bool) (ns : List ℕ) where
  row-long : (n : ℕ) → length (row_up_to p ns n) ≡ n
  unfolding row_up_to
  row-long zero = refl
  row-long (suc n) = let l = row-long n in rw length-append (omega arith)

  -- a row as far as site n, and 0 behind it
  unfoldable pub row_so_far : ℕ → List ℕ
  row_so_far n = row_up_to p ns n ++ replicate (site_limit - n) 0

  pub row-idle : (i : ℕ) → i < site_limit → p (suc i) ≡ false → row_so_far (suc i) ≡ row_so_far i
  unfolding row_so_far row_up_to
  row-idle i h e = rw (e, zero-first i h, append_assoc)

  pub row_more : (i : ℕ) → i < site_limit → p (suc i) ≡ true → set (row_so_far i) i (nth ns (count p i)) ≡ row_so_far (suc i)
  unfolding row_so_far row_up_to
  row_more i h e = rw (e, zero-first i h, append_assoc) (set_at (row_up_to p ns i) 0 _ _ i (row-long i))
