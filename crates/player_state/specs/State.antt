-- The player's own state between two parts of a text.
use Rattle.std.specs.Prelude.{ℕ, ◌+◌, ◌≤◌, Bool, true, false, List, replicate, take}
use Rattle.rig.specs.declared.Rig.{Rig}
use Rattle.rig.specs.Limits.{blank_tables}
use Rattle.model.specs.State.{Stored, size_of, sets_of}
use Rattle.list_rows.specs.Rows.{zero_rows}
use Rattle.player_grammar.specs.Grammar.{line_limit}
use Rattle.player_text.specs.declared.Stage.{Stage}
use Rattle.player_text.specs.declared.Stage.TheVariants.{Size, Sets, Events, Over}
use Rattle.player_text.specs.Player.{Text}
use Rattle.player_text.specs.Calls.{text, beginning, PlayerFits}
use Rattle.player_state.specs.declared.Playing.{Playing}

-- room for a line of the longest length and one byte more
abbrev pub line_room : ℕ
line_room = line_limit + 1

-- what the player knows, with the state of its rig
abbrev pub known : Playing → Text
known s = text s.player s.tables s.list

-- the bytes of the line that the end of a part cut
abbrev pub cut_line : Playing → List ℕ
cut_line s = take s.held s.line

-- the player, its tables and its list belong together, as `begin` and every later call leave them, and a line that is not yet too long is held
pub record PlayingFits (s : Playing) : Type 0 where
  pub fits : PlayerFits s.player s.tables s.list
  pub room : s.held ≤ line_limit

-- before the first line
abbrev pub first_playing : Playing
first_playing = record { player = beginning; tables = blank_tables; list = zero_rows; line = replicate line_room 0; held = 0 }

-- What is known before the first line of a text that goes on from a state: the next line is an event; lines and events are counted from 1.
abbrev pub resumed : Stored → Text
resumed s = record { stage = Events; line = 0; step = 0; size = size_of s.tables; given = size_of s.tables; sets = sets_of s.tables; state = s }

-- the player then, with its tables and its list
abbrev pub resumed_playing : Rig → List (List (List ℕ)) → List (List ℕ) → ℕ → Bool → Playing
resumed_playing g ts rows n tested = record {
  player = record { stage = Events; line = 0; step = 0; size = g.size; given = g.size; sets = g.sets; rig = g; count = n; tested = tested };
  tables = ts;
  list = rows;
  line = replicate line_room 0;
  held = 0;
}

-- the run has ended
abbrev pub over_at : Stage → Bool
over_at Size = false
over_at Sets = false
over_at Events = false
over_at Over = true
