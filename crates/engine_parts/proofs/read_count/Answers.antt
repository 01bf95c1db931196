-- `read_count`: one test.
use borrow.Author.Tests.{eq-eqb, ne_eqb}
use Rattle.engine_parts.proofs.read_count.Goals as goal

pub returns-then-code-ne0 : goal.returns-then-code-ne0
returns-then-code-ne0 c = rw (ne_eqb _ _ c.if-code-ne0.true)

pub returns : goal.returns
returns c = rw (eq-eqb _ _ c.if-code-ne0.false)
