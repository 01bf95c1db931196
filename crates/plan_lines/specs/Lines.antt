-- Request 2.1, "a program that prints a family": its lines as bytes, "`sites=N` and the N lines `set=` just as the player reads them".
use Rattle.std.specs.Prelude.{ℕ, zero, suc, List, [], ◌∷◌, ◌++◌}
use Rattle.rig.specs.Limits.{site_limit}
use Rattle.model.specs.Tables.{at}
use Rattle.rig_members.specs.Walk.{members_up_to}
use Rattle.player_bytes.specs.Decimal.{decimal}
use Rattle.player_grammar.specs.Grammar.{sites_word, set_word}

-- the room that the inner calls ask for a line: 97 bytes at most, where a number may take 20
abbrev pub line_room : ℕ
line_room = 128

-- "A list is a number, or a number, a comma and a list": in decimal, with commas (byte 44)
unfoldable pub list_text : List ℕ → List ℕ
list_text [] = []
list_text (n ∷ []) = decimal n
list_text (n ∷ m ∷ ns) = decimal n ++ (44 ∷ list_text (m ∷ ns))

-- what a line says before its byte 10
abbrev pub sites_bytes : ℕ → List ℕ
sites_bytes n = sites_word ++ decimal n

abbrev pub set_bytes : ℕ → List ℕ
set_bytes set = set_word ++ list_text (members_up_to set site_limit)

-- `code=`
abbrev pub refusal_word : List ℕ
refusal_word = 99 ∷ 111 ∷ 100 ∷ 101 ∷ 61 ∷ []

-- the lines
unfoldable pub sites_text : ℕ → List ℕ
sites_text n = sites_bytes n ++ (10 ∷ [])

unfoldable pub set_text : ℕ → List ℕ
set_text set = set_bytes set ++ (10 ∷ [])

unfoldable pub code_text : ℕ → List ℕ
code_text code = (refusal_word ++ decimal code) ++ (10 ∷ [])

-- the lines `set=` of the first n sets of a buffer
unfoldable pub set_texts : List ℕ → ℕ → List ℕ
set_texts sets zero = []
set_texts sets (suc i) = set_texts sets i ++ set_text (at 0 sets (suc i))

-- the line `sites=` of n sites and the lines of their sets
unfoldable pub setup_text : ℕ → List ℕ → List ℕ
setup_text n sets = sites_text n ++ set_texts sets n
