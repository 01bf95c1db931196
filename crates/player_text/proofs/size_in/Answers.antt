-- `size_in`: by what the line says.
use mathlib.Core.Path.{refl, sym}
use Rattle.player_text.specs.Player.{size_in}
use Rattle.player_text.proofs.Lines.{no_size}
use Rattle.player_text.proofs.size_in.Goals as goal

pub returns-in_err-n : goal.returns-in_err-n
unfolding size_in
returns-in_err-n c = rw c.in_err-n.was c.from_residual.ensures

pub returns-in-Sites : goal.returns-in-Sites
unfolding size_in
returns-in-Sites c = rw (c.in_ok-n.was, c.in-Sites.is) refl

pub returns-in_default : goal.returns-in_default
returns-in_default c = rw c.in_ok-n.was (sym (no_size _ c.in_default.not-Sites))
