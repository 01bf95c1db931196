-- Request 2.2: the entries of a row as numbers, and back.
use Rattle.std.specs.Prelude.{ℕ, zero, suc, Bool, cond, List, [], ◌∷◌, ◌++◌}
use Rattle.basics.specs.Helpers.{count}
use Rattle.rig.specs.Limits.{site_limit}
use Rattle.model.specs.Tables.{at}
use Rattle.save_fields.specs.Fields.{nth}

-- A row of a table: its entries at the sites 1 to n that pass, ascending.
unfoldable pub entries_up_to : (ℕ → Bool) → List ℕ → ℕ → List ℕ
entries_up_to p row zero = []
entries_up_to p row (suc i) = entries_up_to p row i ++ cond (p (suc i)) (at 0 row (suc i) ∷ []) []

unfoldable pub entries : (ℕ → Bool) → List ℕ → List ℕ
entries p row = entries_up_to p row site_limit

-- the row of which the entries are given: 0 at every other site
unfoldable pub row_up_to : (ℕ → Bool) → List ℕ → ℕ → List ℕ
row_up_to p ns zero = []
row_up_to p ns (suc i) = row_up_to p ns i ++ (cond (p (suc i)) (nth ns (count p i)) 0 ∷ [])

unfoldable pub row_from : (ℕ → Bool) → List ℕ → List ℕ
row_from p ns = row_up_to p ns site_limit
