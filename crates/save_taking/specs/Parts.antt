-- What the lines say that start at a place, as the code has it: with the place behind them.
use Rattle.std.specs.Prelude.{ℕ, List, Option, [], get_or, set}
use Rattle.rig.specs.Limits.{HELD, HEIR, INQUIRED}
use Rattle.model.specs.Sets.{member}
use Rattle.rig.specs.declared.Site.{Site}
use Rattle.rig.specs.declared.Arbiter.{Arbiter}
use Rattle.player_grammar.specs.declared.Line.{Line}
use Rattle.player_grammar.specs.Grammar.{meaning_of}
use Rattle.save_fields.specs.Fields.{nth, mode_from, arbiter_from}
use Rattle.save_entries.specs.Entries.{row_from}
use Rattle.save_taking.specs.declared.Taken.{Taken}
use Rattle.save_taking.specs.Places.{line_here, numbers_here, place_behind}

abbrev pub taken_here : List ℕ → ℕ → Taken (List ℕ)
taken_here text at = record { value = numbers_here text at; next = place_behind text at }

-- as the player reads it
abbrev pub meant_here : List ℕ → ℕ → Taken (Option Line)
meant_here text at = record { value = meaning_of (line_here text at); next = place_behind text at }

-- a row of a table: its entries at the members of a set
abbrev pub row_here : ℕ → List ℕ → ℕ → List ℕ
row_here set text at = row_from (member set) (numbers_here text at)

abbrev pub taken_row : ℕ → List ℕ → ℕ → Taken (List ℕ)
taken_row set text at = record { value = row_here set text at; next = place_behind text at }

-- `clock=` and `mode=`
abbrev pub site_here : List ℕ → ℕ → Taken Site
site_here text at = record {
  value = record { mode = mode_from (numbers_here text (place_behind text at)); clock = nth (numbers_here text at) 0 };
  next = place_behind text (place_behind text at);
}

-- `grant=` and `holder=`
abbrev pub arbiter_here : List ℕ → ℕ → Taken Arbiter
arbiter_here text at = record {
  value = arbiter_from (nth (numbers_here text at) 0) (numbers_here text (place_behind text at));
  next = place_behind text (place_behind text at);
}

-- the tables ts with another row i of table t
abbrev pub with_row : List (List (List ℕ)) → ℕ → ℕ → List ℕ → List (List (List ℕ))
with_row ts t i row = set ts t (set (get_or ts t []) i row)

-- the place behind three lines
abbrev pub behind_three : List ℕ → ℕ → ℕ
behind_three text at = place_behind text (place_behind text (place_behind text at))

-- the rows of the three lines `held=`, `heir=` and `inquired=`, of a site with this set, each as row i of its table
abbrev pub with_own : List (List (List ℕ)) → ℕ → ℕ → List ℕ → ℕ → List (List (List ℕ))
with_own ts i set text at =
    with_row
    (with_row
    (with_row ts HELD i (row_here set text at))
    HEIR i (row_here set text (place_behind text at)))
    INQUIRED i (row_here set text (place_behind text (place_behind text at)))
