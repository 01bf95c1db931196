-- A whole text, call by call.
use mathlib.Core.Path.{sym, ap, ◌∙◌}
use mathlib.Core.List.{List, [], ◌∷◌, ◌++◌, append_assoc}
use lib.ListN.{take}
use Prim.Native.Nat.{ℕ}
use Rattle.player_text.specs.Player.{Text, on_end, transcript, output}
use Rattle.player_text.proofs.Start.{begins-at-start}
use Rattle.player_state.specs.declared.Playing.{Playing}
use Rattle.player_state.specs.State.{known, cut_line, first_playing}
use Rattle.player_whole.specs.Whole.{read_by, written_by, InOrder, WholeText, WholeTextFrom}

pub whole-text-from : WholeTextFrom
unfolding WholeTextFrom InOrder read_by written_by transcript
whole-text-from s [] t e = ap (λ (u : Playing). on_end (known u) (cut_line u)) (sym e)
whole-text-from s (c ∷ cs) t h =
    append_assoc (take c.answer.written c.out.exit.now) (written_by cs) (on_end (known t) (cut_line t))
    ∙ ap (λ (z : List ℕ). take c.answer.written c.out.exit.now ++ z) (whole-text-from c.answer.playing cs t h.1)
    ∙ sym (h.0 (read_by cs))

pub whole-text : WholeText
unfolding WholeText WholeTextFrom output
whole-text cs t h = whole-text-from first_playing cs t h ∙ ap (λ (p : Text). transcript p [] (read_by cs)) begins-at-start
