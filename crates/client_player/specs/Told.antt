-- What a call that plays a whole text leaves.
use Rattle.std.specs.Prelude.{ℕ, ◌+◌, ◌≤◌, true, false, List, [], ◌++◌, ◌≡◌, length, take, drop}
use Rattle.player_printing.specs.Printing.{page_length}
use Rattle.player_text.specs.Player.{start, output}
use Rattle.player_parts.specs.Parts.{reads}
use Rattle.player_state.specs.State.{over_at}
use Rattle.client_player.specs.declared.Told.{Told}

-- Of the text `taken` bytes are read. The first `written` bytes of what the text prints stand at the front of the output, and the bytes behind
-- them are as they came. `over` says whether the run has ended by then, `whole` that all that the text prints is written: so it is where the
-- output has room for that and a page more. Where it is, the text is all read or the run has ended; where it is not, what is written is what
-- the bytes read print.
pub record Tells (text out after : List ℕ) (r : Told) : Type 0 where
  pub printed : after ≡ take r.written (output text) ++ drop r.written out
  pub long : length after ≡ length out
  pub room : r.written ≤ length out
  pub over : r.over ≡ over_at (reads start [] (take r.taken text)).next.stage
  pub within : r.taken ≤ length text
  pub read : r.whole ≡ false → (reads start [] (take r.taken text)).said ≡ take r.written (output text)
  pub whole : r.whole ≡ true → r.written ≡ length (output text)
  pub all : r.whole ≡ true → r.over ≡ false → r.taken ≡ length text
  pub enough : length (output text) + page_length ≤ length out → r.whole ≡ true
