-- Request 2.2, "A crew can use it": what the words of the program `state` ask.
use Rattle.std.specs.Prelude.{ℕ, cond, List, [], ◌∷◌, eqb, Option, Some, None}
use Rattle.player_bytes.specs.Same.{same}
use Rattle.state_words.specs.declared.Command.{Command}
use Rattle.state_words.specs.declared.Command.TheVariants.{Save, SaveFrom, PlayFrom}

-- `save`, `play`
abbrev pub save_word : List ℕ
save_word = 115 ∷ 97 ∷ 118 ∷ 101 ∷ []

abbrev pub play_word : List ℕ
play_word = 112 ∷ 108 ∷ 97 ∷ 121 ∷ []

-- `state save`
unfoldable pub alone : List ℕ → Option Command
alone word = cond (same word save_word) (Some Save) None

-- `state save SAVED`, `state play SAVED`
unfoldable pub with_file : List ℕ → Option Command
with_file word = cond (same word save_word) (Some SaveFrom) (cond (same word play_word) (Some PlayFrom) None)

-- by how many words there are, the program's own name among them, and the first behind that name
unfoldable pub command_of : ℕ → List ℕ → Option Command
command_of count word = cond (eqb count 2) (alone word) (cond (eqb count 3) (with_file word) None)
