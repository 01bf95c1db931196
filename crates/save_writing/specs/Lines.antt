-- The lines of a state, of what the code has.
use Rattle.std.specs.Prelude.{ℕ, List, [], ◌∷◌}
use Rattle.model.specs.Tables.{at}
use Rattle.model.specs.State.{Stored}
use Rattle.list_rows.specs.Rows.{message_of}
use Rattle.save_lines.specs.Lines.{Field}
use Rattle.save_text.specs.Text.{set_field, fields_in, message_field, this_spelling}

-- the fields of set k and of message k
abbrev pub set_lines : List ℕ → ℕ → List Field
set_lines sets k = set_field (at 0 sets k) ∷ []

abbrev pub message_lines : List (List ℕ) → ℕ → List Field
message_lines rows k = message_field (message_of (at [] rows k)) ∷ []

-- the fields of a state
abbrev pub state_lines : Stored → List Field
state_lines s = fields_in this_spelling s
