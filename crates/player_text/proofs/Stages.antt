-- What a line does at each stage, and what the end of the input prints.
use Prim.Native.Nat.{ℕ, ◌<◌, ◌≤◌}
use mathlib.Core.Path.{◌≡◌}
use mathlib.Core.List.{List, [], ◌∷◌}
use native.Mathlib.Omega.{arith}
use lib.ListN.{length}
use Rattle.player_grammar.specs.Grammar.{meaning_of}
use Rattle.player_printing.specs.Printing.{stop_line}
use Rattle.player_text.specs.declared.Stage.TheVariants.{Size, Sets, Events, Over}
use Rattle.player_text.specs.Player.{Text, outcome, counted, size_in, set_in, event_in, on_size, on_set, on_event, at_stage, on_line, ends_at, on_end}

module _ (t : Text) (bytes : List ℕ) where
  pub line-size : t.stage ≡ Size → on_line t bytes ≡ on_size t (size_in (meaning_of bytes))
  unfolding on_line at_stage
  line-size e = rw e

  pub line_set : t.stage ≡ Sets → on_line t bytes ≡ on_set t (set_in (meaning_of bytes))
  unfolding on_line at_stage
  line_set e = rw e

  pub line-event : t.stage ≡ Events → on_line t bytes ≡ on_event t (event_in (meaning_of bytes))
  unfolding on_line at_stage
  line-event e = rw e

  pub line-over : t.stage ≡ Over → on_line t bytes ≡ outcome [] t
  unfolding on_line at_stage
  line-over e = rw e

  pub end-size : t.stage ≡ Size → on_end t bytes ≡ stop_line 11 (counted t.line)
  unfolding on_end ends_at
  end-size e = rw e

  pub end-sets : t.stage ≡ Sets → on_end t bytes ≡ stop_line 11 (counted t.line)
  unfolding on_end ends_at
  end-sets e = rw e

  pub end-over : t.stage ≡ Over → on_end t bytes ≡ []
  unfolding on_end ends_at
  end-over e = rw e

pub end-inside-line : (t : Text) (bytes : List ℕ) → t.stage ≡ Events → 0 < length bytes → on_end t bytes ≡ stop_line 11 (counted t.line)
unfolding on_end ends_at
end-inside-line t [] e h = absurd (omega arith)
end-inside-line t (b ∷ bs) e h = rw e

pub end-after-line : (t : Text) (bytes : List ℕ) → t.stage ≡ Events → length bytes ≤ 0 → on_end t bytes ≡ []
unfolding on_end ends_at
end-after-line t [] e h = rw e
end-after-line t (b ∷ bs) e h = absurd (omega arith)
