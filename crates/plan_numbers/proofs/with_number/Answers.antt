-- `with_number`: the number in its entry, and one more counted.
use Rattle.plan_numbers.specs.Given.{with_number}
use Rattle.plan_numbers.proofs.with_number.Goals as goal

pub returns : goal.returns
unfolding with_number
returns c = rw (c.put_at.ensures, c.saturating_add.ensures)
