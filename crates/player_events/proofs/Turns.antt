-- What a line among the events prints and leaves: an event's, and any other.
use Prim.Native.Nat.{ℕ}
use mathlib.Core.Path.{◌≡◌, ap}
use mathlib.Core.List.{List}
use Rattle.std.specs.Prelude.{Some, None}
use borrow.Author.Tests.{eq-eqb}
use Rattle.rig.specs.declared.Event.{Event}
use Rattle.rig.specs.declared.Rig.{Rig}
use Rattle.rig.specs.Limits.{message_limit}
use Rattle.model.specs.Run.{waiting_count}
use Rattle.model.specs.Printed.{inside_up_to, line_of}
use Rattle.model.specs.Event.{Answer, answer, played, tested, event}
use Rattle.model_shaped.specs.Kept.{Playable}
use Rattle.model_shaped.proofs.Events.{playable-next}
use Rattle.list_rows.specs.State.{stored}
use Rattle.player_grammar.specs.Grammar.{meaning_of}
use Rattle.player_printing.specs.Printing.{step_line, stop_line}
use Rattle.player_text.specs.declared.Player.{Player}
use Rattle.player_text.specs.Player.{Text, outcome, counted, stopped, event_in, printed_line, on_event, at_stage, on_line}
use Rattle.player_text.specs.Calls.{text, over}
use Rattle.player_events.specs.Stretches.{player_at}

module _ (p : Player) (line step : ℕ) (g : Rig) (n : ℕ) (ts : List (List (List ℕ))) (rows : List (List ℕ)) (l : List ℕ) where
  abbrev t : Text
  t = text (player_at p line step g n) ts rows

  module _ (e : Event) (g' : Rig) (n' code : ℕ) (ts' : List (List (List ℕ))) (rows' : List (List ℕ)) (playable : Playable (stored g ts rows n))
      (s : answer code (stored g' ts' rows' n') ≡ played (stored g ts rows n) e) where
    pub event-line : {line' step' inside waiting : ℕ} → event_in (meaning_of l) ≡ Some e → line' ≡ counted line → step' ≡ counted step
        → inside ≡ inside_up_to g' g'.size → waiting ≡ waiting_count g'
        → on_line t l ≡ outcome (step_line step' code inside waiting n') (text (player_at p line' step' g' n') ts' rows')
    unfolding on_line at_stage on_event printed_line line_of event tested
    event-line is a b c d = rw (is, eq-eqb _ message_limit playable.long, playable.shaped, ← s, a, b, c, d)

    pub event-playable : Playable (stored g' ts' rows' n')
    event-playable = rw (ap (λ (a : Answer). a.next) s) (playable-next (stored g ts rows n) e playable)

  pub other-line : event_in (meaning_of l) ≡ None → on_line t l ≡ outcome (stop_line 11 (counted line)) (text (over (player_at p line step g n)) ts rows)
  unfolding on_line at_stage on_event stopped
  other-line is = rw is
