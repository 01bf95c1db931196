-- A whole text, played by `begin`, by `part` as often as the caller likes, and by `finish`.
use Rattle.std.specs.Prelude.{ℕ, List, [], ◌∷◌, ◌++◌, ◌≡◌, take}
use Rattle.list_rows.specs.State.{Lent}
use Rattle.player_text.specs.Player.{on_end, transcript, output}
use Rattle.player_state.specs.declared.Playing.{Playing}
use Rattle.player_playing.specs.declared.Played.{Played}
use Rattle.player_state.specs.State.{known, cut_line, first_playing}
use Rattle.player_playing.specs.Played.{Continues}

-- one call of `part`: what it is given and lent, and its answer
pub record Call : Type 0 where
  pub given : List ℕ
  pub out : Lent (List ℕ)
  pub answer : Played

-- the bytes that the calls read, and those that they wrote, joined
unfoldable pub read_by : List Call → List ℕ
read_by [] = []
read_by (c ∷ cs) = take c.answer.taken c.given ++ read_by cs

unfoldable pub written_by : List Call → List ℕ
written_by [] = []
written_by (c ∷ cs) = take c.answer.written c.out.exit.now ++ written_by cs

-- each call keeps its promise on the state that the one before it left; the last one leaves t
unfoldable pub InOrder : Playing → List Call → Playing → Type 0
InOrder s [] t = s ≡ t
InOrder s (c ∷ cs) t = Continues s c.given c.out c.answer × InOrder c.answer.playing cs t

-- Whatever the calls are given and lent: what they wrote, and then what `finish` prints, is what the text prints that they have read.
unfoldable pub WholeText : Type 0
WholeText = (calls : List Call) (t : Playing) → InOrder first_playing calls t → written_by calls ++ on_end (known t) (cut_line t) ≡ output (read_by calls)

-- The same from any state of the player on: one in the middle of a text, or one that goes on from a saved state.
unfoldable pub WholeTextFrom : Type 0
WholeTextFrom = (s : Playing) (calls : List Call) (t : Playing) → InOrder s calls t → written_by calls ++ on_end (known t) (cut_line t) ≡ transcript (known s) (cut_line s) (read_by calls)
