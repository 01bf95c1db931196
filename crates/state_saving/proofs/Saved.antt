-- The saved text of a state, case by case.
use Prim.Native.Nat.{ℕ, ◌≤◌, ◌<◌}
use mathlib.Core.Bool.{true, false, cond}
use mathlib.Core.List.{List, [], ◌∷◌}
use mathlib.Core.Path.{◌≡◌, refl}
use native.Mathlib.Omega.{arith}
use lib.ListN.{length, take}
use Rattle.basics.proofs.Basics.{by_bool}
use Rattle.rig.specs.Limits.{message_limit}
use Rattle.model.specs.State.{Stored}
use Rattle.model.specs.Shape.{well_shaped}
use Rattle.model.proofs.Shaped.{shaped}
use Rattle.save_text.specs.Text.{text_of}
use Rattle.player_bytes.specs.Wrote.{Wrote}
use Rattle.player_printing.specs.Printing.{Printed}
use Rattle.player_printing.proofs.Lines.{wrote-line, printed-part}
use Rattle.list_rows.specs.State.{stored}
use Rattle.player_text.specs.declared.Player.{Player}
use Rattle.player_text.specs.Player.{Text, on_end}
use Rattle.player_state.specs.declared.Playing.{Playing}
use Rattle.player_state.specs.State.{known}
use Rattle.state_text.specs.State.{stop_text, saved_text, is_empty, at_end}

pub printed-as : {line other page after : List ℕ} {r : ℕ} → line ≡ other → Printed line page after r → Printed other page after r
printed-as e p = rw (← e) p

-- a line on one page, put at the start of another
pub line-copied : {line small printed page after : List ℕ} {n r : ℕ} → Printed line small printed n → Wrote (take n printed) 0 page after r → n ≤ length page → Printed line page after r
line-copied p w l = wrote-line (rw p.text at w) (omega (arith, w.behind, (printed-part p).1))

module _ (s : Stored) where
  pub misshapen : well_shaped s ≡ false → stop_text 10 ≡ saved_text s
  unfolding saved_text
  misshapen e = rw e

  pub too_many : message_limit < s.count → stop_text 10 ≡ saved_text s
  too_many h = misshapen (by_bool (well_shaped s) (λ w. let f = (shaped s w).few in absurd (omega arith)) (λ w. w))

  pub shaped-text : well_shaped s ≡ true → text_of s ≡ saved_text s
  unfolding saved_text
  shaped-text e = rw e

-- the state of the player, from its parts
pub state-of : (s : Playing) (p : Player) (ts : List (List (List ℕ))) (rows : List (List ℕ)) → p ≡ s.player → ts ≡ s.tables → rows ≡ s.list
    → saved_text (stored p.rig ts rows p.count) ≡ saved_text (known s).state
state-of s p ts rows a b c = rw (a, b, c)

-- At the end: a stop line has bytes.
pub some-stop : (p : Text) (line : List ℕ) → 0 < length (on_end p line) → on_end p line ≡ at_end p line
unfolding at_end
some-stop p line h = chosen (on_end p line) h
  where
    chosen : (e : List ℕ) → 0 < length e → e ≡ cond (is_empty e) (saved_text p.state) e
    chosen [] l = absurd (omega arith)
    chosen (b ∷ bs) l = refl

pub no_stop : (p : Text) (line : List ℕ) → length (on_end p line) ≤ 0 → saved_text p.state ≡ at_end p line
unfolding at_end
no_stop p line h = chosen (on_end p line) h
  where
    chosen : (e : List ℕ) → length e ≤ 0 → saved_text p.state ≡ cond (is_empty e) (saved_text p.state) e
    chosen [] l = refl
    chosen (b ∷ bs) l = absurd (omega arith)
