-- Request 2.2, "A crew can use it": what the program `state` prints.
use Rattle.std.specs.Prelude.{ℕ, Bool, true, false, cond, List, [], ◌∷◌, ◌++◌, eqb}
use Rattle.std.proofs.Math.Option.{Option, none, some}
use Rattle.model.specs.State.{Stored}
use Rattle.model.specs.Shape.{well_shaped}
use Rattle.player_bytes.specs.Decimal.{decimal}
use Rattle.player_printing.specs.Printing.{stop_word}
use Rattle.player_text.specs.declared.Stage.{Stage}
use Rattle.player_text.specs.declared.Stage.TheVariants.{Size, Sets, Events, Over}
use Rattle.player_text.specs.Player.{Text, on_end, start, transcript}
use Rattle.player_parts.specs.Parts.{Part, reads}
use Rattle.player_state.specs.State.{resumed}
use Rattle.save_text.specs.Text.{text_of}

-- `stop=14`, where a file is no saved text, and `stop=10`, where the state has become misshapen, so that it has no text: a stop without a line
unfoldable pub stop_text : ℕ → List ℕ
stop_text code = (stop_word ++ decimal code) ++ (10 ∷ [])

-- the saved text of a state
unfoldable pub saved_text : Stored → List ℕ
saved_text s = cond (well_shaped s) (text_of s) (stop_text 10)

abbrev pub is_empty : List ℕ → Bool
is_empty [] = true
is_empty (b ∷ bs) = false

-- The last of the lines that bytes are: a byte behind the end of a line (`ended`) begins the next one. `line` is the present one.
unfoldable pub last_from : List ℕ → Bool → List ℕ → List ℕ
last_from line ended [] = line
last_from line ended (b ∷ bs) = last_from (cond ended [] line ++ (b ∷ [])) (eqb b 10) bs

unfoldable pub last_line : List ℕ → List ℕ
last_line bytes = last_from [] true bytes

-- At the end of the input: the stop line that the player prints there; if it prints none, "the saved text of the state after its last event".
unfoldable pub at_end : Text → List ℕ → List ℕ
at_end p line = cond (is_empty (on_end p line)) (saved_text p.state) (on_end p line)

-- "a text that stops prints its stop line instead": the last line that the player has printed
unfoldable pub saved_at : Stage → Part → List ℕ
saved_at Size r = at_end r.next r.line
saved_at Sets r = at_end r.next r.line
saved_at Events r = at_end r.next r.line
saved_at Over r = last_line r.said

-- a text played from what the player knows, and saved
unfoldable pub saved : Text → List ℕ → List ℕ
saved p text = let r = reads p [] text in saved_at r.next.stage r

-- `state save < TEXT`
unfoldable pub save_prints : List ℕ → List ℕ
save_prints text = saved start text

-- `state save SAVED < EVENTS`: "A file that is no saved text prints `stop=14`"
unfoldable pub save_from_prints : Option Stored → List ℕ → List ℕ
save_from_prints none events = stop_text 14
save_from_prints (some s) events = saved (resumed s) events

-- `state play SAVED < EVENTS`: "the player's lines for them, places and lines counted from 1"
unfoldable pub play_from_prints : Option Stored → List ℕ → List ℕ
play_from_prints none events = stop_text 14
play_from_prints (some s) events = transcript (resumed s) [] events
