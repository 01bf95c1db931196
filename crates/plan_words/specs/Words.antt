-- Request 2.1, "a program that prints a family", and request 2.5: what its words ask. "A wrong word, a number that is none or too many of them print
-- how to use it."
use Rattle.std.specs.Prelude.{ℕ, cond, List, [], ◌∷◌, eqb, Option, Some, None}
use Rattle.player_bytes.specs.Same.{same}
use Rattle.model.specs.Tables.{at}
use Rattle.plan_numbers.specs.declared.Given.{Given}
use Rattle.family_rules.specs.declared.Family.TheVariants.{Grid, Billiard, Plane, Levels}
use Rattle.plan_words.specs.declared.Asked.{Asked}
use Rattle.plan_words.specs.declared.Asked.TheVariants.{For, Votes}

-- `grid`, `billiard`, `plane`, `levels`, `votes`
abbrev pub grid_word : List ℕ
grid_word = 103 ∷ 114 ∷ 105 ∷ 100 ∷ []

abbrev pub billiard_word : List ℕ
billiard_word = 98 ∷ 105 ∷ 108 ∷ 108 ∷ 105 ∷ 97 ∷ 114 ∷ 100 ∷ []

abbrev pub plane_word : List ℕ
plane_word = 112 ∷ 108 ∷ 97 ∷ 110 ∷ 101 ∷ []

abbrev pub levels_word : List ℕ
levels_word = 108 ∷ 101 ∷ 118 ∷ 101 ∷ 108 ∷ 115 ∷ []

abbrev pub votes_word : List ℕ
votes_word = 118 ∷ 111 ∷ 116 ∷ 101 ∷ 115 ∷ []

-- a family of one number, and one of three
unfoldable pub of_one : List ℕ → ℕ → Option Asked
of_one name n =
    cond (same name grid_word) (Some (For (Grid n)))
    (cond (same name billiard_word) (Some (For (Billiard n)))
    (cond (same name plane_word) (Some (For (Plane n)))
    None))

unfoldable pub of_three : List ℕ → ℕ → ℕ → ℕ → Option Asked
of_three name a b c = cond (same name levels_word) (Some (For (Levels a b c))) None

-- What a family's name asks with the numbers behind it. Votes are as many as there are: "N is how many votes there are".
unfoldable pub asked_by : List ℕ → Given → Option Asked
asked_by name g =
    let number = at 0 g.numbers in
    cond g.wrong None
    (cond (same name votes_word) (Some Votes)
    (cond (eqb g.count 1) (of_one name (number 1))
    (cond (eqb g.count 3) (of_three name (number 1) (number 2) (number 3))
    None)))
