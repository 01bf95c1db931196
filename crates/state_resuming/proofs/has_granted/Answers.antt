-- `has_granted`: the holder, then the grant number.
use borrow.Author.Tests.{eq-eqb, ne_eqb}
use Rattle.model_shaped.specs.Kept.{has_granted}
use Rattle.state_resuming.proofs.has_granted.Goals as goal

pub returns-then-a-eq0 : goal.returns-then-a-eq0
unfolding has_granted
returns-then-a-eq0 c = rw (eq-eqb _ _ c.if-a-eq0.true)

pub returns-else-a-eq0 : goal.returns-else-a-eq0
unfolding has_granted
returns-else-a-eq0 c = rw (ne_eqb _ _ c.if-a-eq0.false)
