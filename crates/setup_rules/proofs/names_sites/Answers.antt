-- `names_sites`: the two tests of `names`.
use mathlib.Core.Path.{sym}
use Rattle.model.proofs.Sets.{names-shift, names-empty}
use Rattle.setup_rules.proofs.names_sites.Goals as goal

pub returns-then-set-ne0 : goal.returns-then-set-ne0
returns-then-set-ne0 c = sym (names-shift _ _ c.if-set-ne0.true)

pub returns-else-set-ne0 : goal.returns-else-set-ne0
returns-else-set-ne0 c = rw c.if-set-ne0.false (sym (names-empty _))
