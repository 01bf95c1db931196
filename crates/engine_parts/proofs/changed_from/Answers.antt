-- `changed_from`: two tests.
use borrow.Author.Tests.{eq-eqb, ne_eqb}
use Rattle.engine_parts.proofs.changed_from.Goals as goal

pub returns-then-code-ne0 : goal.returns-then-code-ne0
returns-then-code-ne0 c = rw (ne_eqb _ _ c.if-code-ne0.true)

pub returns-in-At : goal.returns-in-At
returns-in-At c = rw (eq-eqb _ _ c.if-code-ne0.false, c.in-At.is)

pub returns-in-Nowhere : goal.returns-in-Nowhere
returns-in-Nowhere c = rw (eq-eqb _ _ c.if-code-ne0.false, c.in-Nowhere.is)
