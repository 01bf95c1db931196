-- Where a message stands in a list.
use Rattle.std.specs.Prelude.{ℕ, suc, Bool, cond, List, [], ◌∷◌, Option, Some, None}
use Rattle.model.specs.Deliver.{between}
use Rattle.list_rows.specs.Rows.{message_of}
use Rattle.list_search.specs.declared.Found.{Found}
use Rattle.list_search.specs.declared.Found.TheVariants.{At, Nowhere}

-- the place of the first entry that passes a test, where the first entry has place k
abbrev pub place_from : {A : Type 0} → ℕ → (A → Bool) → List A → Found
place_from k test [] = Nowhere
place_from k test (x ∷ xs) = cond (test x) (At k) (place_from (suc k) test xs)

-- the place of the first row from a to b
abbrev pub found_from : ℕ → ℕ → ℕ → List (List ℕ) → Found
found_from k a b rows = place_from k (λ (r : List ℕ). between a b (message_of r)) rows

abbrev pub found_in : ℕ → ℕ → List (List ℕ) → Found
found_in a b rows = found_from 0 a b rows

-- an index that may be found, as a place
abbrev pub found_of : Option ℕ → Found
found_of (Some i) = At i
found_of None = Nowhere
