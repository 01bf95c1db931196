-- `same_bytes`: the library's test.
use mathlib.Core.Path.{◌∙◌}
use Rattle.player_bytes.proofs.Same.{pointwise-same}
use Rattle.player_bytes.proofs.same_bytes.Goals as goal

pub returns : goal.returns
returns c = c.eq.ensures ∙ pointwise-same c.args.x.now c.args.y.now
