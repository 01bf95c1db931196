-- `set_in`: by what the line says.
use mathlib.Core.Path.{refl, sym}
use Rattle.player_text.specs.Player.{set_in}
use Rattle.player_text.proofs.Lines.{no-set}
use Rattle.player_text.proofs.set_in.Goals as goal

pub returns-in_err-set : goal.returns-in_err-set
unfolding set_in
returns-in_err-set c = rw c.in_err-set.was c.from_residual.ensures

pub returns-in-Set : goal.returns-in-Set
unfolding set_in
returns-in-Set c = rw (c.in_ok-set.was, c.in-Set.is) refl

pub returns-in_default : goal.returns-in_default
returns-in_default c = rw c.in_ok-set.was (sym (no-set _ c.in_default.not-Set))
