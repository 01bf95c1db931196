-- `going_on`: the parts of the state, and that they fit.
use mathlib.Core.Path.{refl}
use native.Mathlib.Omega.{arith}
use Rattle.player_state.proofs.going_on.Goals as goal

pub returns : goal.returns
returns c = rw c.made_of.ensures record {
  value = refl;
  result_value = (refl, refl, record { fits = record { fits = c.requires }; room = omega arith });
}
