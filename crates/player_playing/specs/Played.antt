-- What a part of a text leaves.
use Rattle.std.specs.Prelude.{ℕ, List, ◌++◌, ◌≡◌, take}
use Rattle.list_rows.specs.State.{Lent}
use Rattle.player_text.specs.Player.{transcript}
use Rattle.player_reading.specs.Reading.{ReadTo, AllOrFull}
use Rattle.player_state.specs.declared.Playing.{Playing}
use Rattle.player_state.specs.State.{known, cut_line, PlayingFits}
use Rattle.player_playing.specs.declared.Played.{Played}

-- What a part leaves: `ReadTo` of what the player knows and of the line that is cut, before it and after it; and all of it is read, or the
-- output is full.
abbrev pub LeavesPlayed : Playing → List ℕ → Lent (List ℕ) → Played → Type 0
LeavesPlayed s given out r =
    ReadTo (known s) (cut_line s) given out.entry.now r.taken (known r.playing) (cut_line r.playing) r.written out.exit.now
    × PlayingFits r.playing
    × AllOrFull given out.entry.now r.taken r.written

-- The same by `transcript`: whatever bytes follow, what the text prints from here on is what the part wrote, and then what it prints from there on.
abbrev pub Continues : Playing → List ℕ → Lent (List ℕ) → Played → Type 0
Continues s given out r =
    (rest : List ℕ) →
    transcript (known s) (cut_line s) (take r.taken given ++ rest)
    ≡ take r.written out.exit.now ++ transcript (known r.playing) (cut_line r.playing) rest
