-- `mode_from`: by the first number.
use borrow.Author.Tests.{eq-eqb, ne_eqb}
use Rattle.save_fields.specs.Fields.{mode_from}
use Rattle.save_fields.proofs.mode_from.Goals as goal

pub returns-then-kind-eq0 : goal.returns-then-kind-eq0
unfolding mode_from
returns-then-kind-eq0 c = rw (eq-eqb _ 0 c.if-kind-eq0.true)

pub returns-then-kind-eq1 : goal.returns-then-kind-eq1
unfolding mode_from
returns-then-kind-eq1 c = rw (ne_eqb _ 0 c.if-kind-eq0.false, eq-eqb _ 1 c.if-kind-eq1.true)

pub returns : goal.returns
unfolding mode_from
returns c = rw (ne_eqb _ 0 c.if-kind-eq0.false, ne_eqb _ 1 c.if-kind-eq1.false)
