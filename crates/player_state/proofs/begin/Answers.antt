-- `begin`: the parts of the first state.
use mathlib.Core.Path.{refl}
use Rattle.player_state.proofs.First.{begun}
use Rattle.player_state.proofs.begin.Goals as goal

pub returns : goal.returns
returns c = rw (c.made_of.ensures, c.blank-tables.ensures, c.begin-player.ensures) record {
  value = refl;
  playing_fits = begun;
}
