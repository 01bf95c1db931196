-- What a caller of the planner gets for the words `grid` and a side.
use Rattle.std.specs.Prelude.{ℕ, List, [], ◌∷◌, ◌++◌, length, drop, Option}
use Rattle.plan_numbers.specs.declared.Given.{Given}
use Rattle.plan_numbers.specs.Given.{given}
use Rattle.plan_words.specs.declared.Asked.{Asked}
use Rattle.plan_words.specs.Words.{grid_word, asked_by}
use Rattle.plan_text.specs.declared.Output.{Output}
use Rattle.plan_text.specs.Plan.{text_for, stream_for}

-- one word behind the name
abbrev pub side_given : List ℕ → Given
side_given side = given (side ∷ [])

abbrev pub grid_asked : List ℕ → Option Asked
grid_asked side = asked_by grid_word (side_given side)

-- where the text goes, and its length
unfoldable pub grid_output : List ℕ → Output
grid_output side = record { to = stream_for (grid_asked side); length = length (text_for (grid_asked side) (side_given side)) }

-- the text, and the page behind it as it came
unfoldable pub grid_page : List ℕ → List ℕ → List ℕ
grid_page side page = let text = text_for (grid_asked side) (side_given side) in text ++ drop (length text) page
