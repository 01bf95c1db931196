-- Commands and what they ask, by calculation.
use Prim.Native.Nat.{ℕ}
use mathlib.Core.Bool.{true, false}
use mathlib.Core.List.{List, [], ◌∷◌}
use mathlib.Core.Path.{◌≡◌, refl}
use Rattle.family_rules.specs.declared.Family.TheVariants.{Grid, Billiard, Plane, Levels}
use Rattle.std.specs.Prelude.{Some, None}
use Rattle.model.specs.Tables.{at}
use Rattle.plan_numbers.specs.declared.Given.{Given}
use Rattle.player_bytes.specs.Same.{same}
use Rattle.plan_words.specs.Words.{grid_word, billiard_word, plane_word, levels_word, votes_word, of_one, of_three, asked_by}
use Rattle.plan_words.specs.declared.Asked.TheVariants.{For, Votes}

-- so many numbers
abbrev numbers : ℕ → List ℕ → Given
numbers n ns = record { wrong = false; count = n; numbers = ns }

-- `grid 3`, `billiard 7`, `plane 10`, `levels 2 3 5`, `votes 3 1 1 1`, `votes`
right :
    (asked_by grid_word (numbers 1 (3 ∷ [])) ≡ Some (For (Grid 3)))
    × (asked_by billiard_word (numbers 1 (7 ∷ [])) ≡ Some (For (Billiard 7)))
    × (asked_by plane_word (numbers 1 (10 ∷ [])) ≡ Some (For (Plane 10)))
    × (asked_by levels_word (numbers 3 (2 ∷ 3 ∷ 5 ∷ [])) ≡ Some (For (Levels 2 3 5)))
    × (asked_by votes_word (numbers 4 (3 ∷ 1 ∷ 1 ∷ 1 ∷ [])) ≡ Some Votes)
    × (asked_by votes_word (numbers 0 []) ≡ Some Votes)
unfolding asked_by of_one of_three same at
right = (refl, refl, refl, refl, refl, refl)

-- `grid` and `votes` with a word that is no number, `gri 3`, `grids 3`, `levels 2`, `grid`, `grid 3 4 5`, `levels 2 3 5 7`
wrong :
    (asked_by grid_word (record { wrong = true; count = 1; numbers = 3 ∷ [] }) ≡ None)
    × (asked_by votes_word (record { wrong = true; count = 1; numbers = 3 ∷ [] }) ≡ None)
    × (asked_by (103 ∷ 114 ∷ 105 ∷ []) (numbers 1 (3 ∷ [])) ≡ None)
    × (asked_by (103 ∷ 114 ∷ 105 ∷ 100 ∷ 115 ∷ []) (numbers 1 (3 ∷ [])) ≡ None)
    × (asked_by levels_word (numbers 1 (2 ∷ [])) ≡ None)
    × (asked_by grid_word (numbers 0 []) ≡ None)
    × (asked_by grid_word (numbers 3 (3 ∷ 4 ∷ 5 ∷ [])) ≡ None)
    × (asked_by levels_word (numbers 4 (2 ∷ 3 ∷ 5 ∷ 7 ∷ [])) ≡ None)
unfolding asked_by of_one of_three same at
wrong = (refl, refl, refl, refl, refl, refl, refl, refl)
