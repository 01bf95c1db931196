-- A list in rows after an event.
use Rattle.std.specs.Prelude.{ℕ, ◌+◌, ◌≡◌, List, ◌∷◌, ◌++◌, length, take, drop}
use Rattle.list_rows.specs.Rows.{zero_row, ZeroPast, without}

-- one of the first n rows is gone, and a blank row follows the others
abbrev pub taken_out : ℕ → ℕ → List (List ℕ) → List (List ℕ)
taken_out n place rows = without place (take n rows) ++ (zero_row ∷ drop n rows)

-- Of n rows the one at a place was taken off, or none where the place is n, and the first m rows of `sent` were put behind the rest: now r
-- are used, and past them all are zeros.
pub record Exchanged (n place : ℕ) (rows sent : List (List ℕ)) (m r : ℕ) (after : List (List ℕ)) : Type 0 where
  pub count : r ≡ length (without place (take n rows)) + m
  pub list : take r after ≡ without place (take n rows) ++ take m sent
  pub zeros : ZeroPast r after
