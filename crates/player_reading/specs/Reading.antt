-- What a call that plays a part of a text leaves.
use Rattle.std.specs.Prelude.{ℕ, ◌+◌, ◌<◌, ◌≤◌, ◌≡◌, List, length, take, drop}
use Rattle.list_rows.specs.State.{Lent}
use Rattle.player_grammar.specs.Grammar.{line_limit}
use Rattle.player_printing.specs.Printing.{page_length}
use Rattle.player_text.specs.declared.Player.{Player}
use Rattle.player_text.specs.Player.{Text}
use Rattle.player_text.specs.Calls.{before, text, PlayerFits}
use Rattle.player_parts.specs.Parts.{reads}
use Rattle.player_events.specs.declared.Stretch.{Stretch}
use Rattle.player_events.specs.Stretches.{Plays}
use Rattle.player_next.specs.Lines.{between}
use Rattle.player_reading.specs.declared.PartRead.{PartRead}

-- Of the bytes given, `from` are read. What they print, as a part behind the bytes `line`, stands in the first `at` bytes of the output, and the
-- bytes behind those are as they came; the player then knows `next`, and has read `cut` of a line.
pub record ReadTo (start : Text) (line bytes out : List ℕ) (from : ℕ) (next : Text) (cut : List ℕ) (at : ℕ) (after : List ℕ) : Type 0 where
  pub part : reads start line (take from bytes) ≡ record { said = take at after; next = next; line = cut }
  pub rest : drop at after ≡ drop at out
  pub long : length after ≡ length out
  pub within : from ≤ length bytes
  pub room : at ≤ length after

-- whole lines from `from` on are played as far as the answer says, and printed from place `at` on
pub record GoesOn (t : Text) (bytes : List ℕ) (from : ℕ) (u : Text) (at : ℕ) (out after : List ℕ) (r : Stretch) : Type 0 where
  pub plays : Plays t (between from r.from bytes) u at out after r.at
  pub low : from ≤ r.from
  pub high : r.from ≤ length bytes
  pub room : r.at ≤ length out

-- `GoesOn` of what a call is lent, which then fits the player
abbrev pub LeavesOn : Player → Lent (List (List (List ℕ))) → Lent (List (List ℕ)) → List ℕ → ℕ → Lent (List ℕ) → ℕ → Stretch → Type 0
LeavesOn p ts rows given from out at r =
    GoesOn (before p ts rows) given from (text r.player ts.exit.now rows.exit.now) at out.entry.now out.exit.now r
    × PlayerFits r.player ts.exit.now rows.exit.now

-- All bytes given are read, or the output has less room left than a page, on which any line fits. How many bytes are read with less room than
-- that is left to the program: from the start it may be none.
abbrev pub AllOrFull : List ℕ → List ℕ → ℕ → ℕ → Type 0
AllOrFull given out from at = from < length given → length out < at + page_length

-- what a part leaves, of what a call is lent: `ReadTo`, and all of it is read, or the output is full
abbrev pub LeavesPart : Player → Lent (List (List (List ℕ))) → Lent (List (List ℕ)) → List ℕ → List ℕ → Lent (List ℕ) → PartRead → Type 0
LeavesPart p ts rows line given out r =
    ReadTo (before p ts rows) line given out.entry.now r.from (text r.player ts.exit.now rows.exit.now) (take r.held r.line) r.at out.exit.now
    × PlayerFits r.player ts.exit.now rows.exit.now
    × (r.held ≤ line_limit)
    × AllOrFull given out.entry.now r.from r.at
