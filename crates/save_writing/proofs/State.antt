-- The lines of a well-shaped state: a page of the longest text has room for them, and they are the state's text.
use mathlib.Core.Bool.{true}
use mathlib.Core.List.{List}
use mathlib.Core.Path.{◌≡◌}
use Prim.Native.Nat.{ℕ}
use native.Mathlib.Omega.{arith}
use lib.ListN.{length}
use Rattle.model.specs.State.{Stored}
use Rattle.model.specs.Shape.{well_shaped}
use Rattle.player_printing.specs.Printing.{Printed}
use Rattle.player_printing.proofs.Lines.{wrote-line}
use Rattle.save_text.specs.Text.{text_in, text_of}
use Rattle.save_text.specs.Claims.{longest, NoneLonger}
use Rattle.save_text.proofs.Longest.{none-longer}
use Rattle.save_putting.specs.Puts.{Fits, Puts}
use Rattle.save_writing.specs.Lines.{state_lines}

module _ (s : Stored) (e : well_shaped s ≡ true) (page : List ℕ) (long : length page ≡ longest) where
  pub state-fits : Fits (state_lines s) 0 page
  unfolding NoneLonger text_of text_in
  state-fits = record { room = omega (arith, none-longer s e) }

  pub state-printed : {after : List ℕ} {r : ℕ} → Puts (state_lines s) 0 page after r → Printed (text_of s) page after r
  unfolding NoneLonger text_of text_in
  state-printed w = wrote-line w.wrote (omega (arith, w.wrote.behind, none-longer s e))
