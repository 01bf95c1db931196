-- What the player knows behind a text that sets a rig up, and what such a text prints with what follows it.
use Rattle.std.specs.Prelude.{ℕ, ◌+◌, cond, List, [], eqb}
use Rattle.model.specs.Setup.{setup_code, kept_sets}
use Rattle.model.specs.Run.{fresh}
use Rattle.player_text.specs.declared.Stage.TheVariants.{Events}
use Rattle.player_printing.specs.Printing.{stop_line}
use Rattle.player_text.specs.Player.{Text, start, transcript}
use Rattle.setup_faults.specs.Faults.{fault_line}

-- the player behind the last of n sets: n + 1 lines are read, its rig is fresh, the first event comes next
unfoldable pub ready : ℕ → List ℕ → Text
ready n sets = record {
  stage = Events;
  line = n + 1;
  step = 0;
  size = n;
  given = n;
  sets = kept_sets n sets;
  state = fresh n sets start.state.list;
}

-- what the lines of sets that meet print, with `rest` behind them: where setup accepts the sets, it is played on their fresh rig; else the player stops
unfoldable pub played_behind : ℕ → List ℕ → List ℕ → List ℕ
played_behind n sets rest = cond (eqb (setup_code n sets) 0) (transcript (ready n sets) [] rest) (stop_line (setup_code n sets) (fault_line n sets))
