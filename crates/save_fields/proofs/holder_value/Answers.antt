-- `holder_value`: no holder, or one with its sequence number.
use borrow.Author.Tests.{eq-eqb, ne_eqb}
use Rattle.save_fields.specs.Fields.{holder_numbers}
use Rattle.save_fields.proofs.holder_value.Goals as goal

pub returns-then-a-eq0 : goal.returns-then-a-eq0
unfolding holder_numbers
returns-then-a-eq0 c = rw (eq-eqb _ 0 c.if-a-eq0.true) c.first_five.ensures

pub returns : goal.returns
unfolding holder_numbers
returns c = rw (ne_eqb _ 0 c.if-a-eq0.false) c.first_five-2.ensures
