-- `count_of`: one test.
use borrow.Author.Tests.{eq-eqb, ne_eqb}
use Rattle.save_messages.proofs.count_of.Goals as goal

pub returns-then-last-eq0 : goal.returns-then-last-eq0
returns-then-last-eq0 c = rw (eq-eqb _ _ c.if-last-eq0.true)

pub returns-else-last-eq0 : goal.returns-else-last-eq0
returns-else-last-eq0 c = rw (ne_eqb _ _ c.if-last-eq0.false)
