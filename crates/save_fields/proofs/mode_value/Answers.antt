-- `mode_value`: one arm for each mode.
use Rattle.save_fields.specs.Fields.{mode_numbers}
use Rattle.save_fields.proofs.mode_value.Goals as goal

pub returns-in-Rest : goal.returns-in-Rest
unfolding mode_numbers
returns-in-Rest c = rw c.in-Rest.is c.first_five.ensures

pub returns-in-Waiting : goal.returns-in-Waiting
unfolding mode_numbers
returns-in-Waiting c = rw (c.in-Waiting.is, ← c.mark.ensures) c.first_five-in-Waiting.ensures

pub returns-in-Inside : goal.returns-in-Inside
unfolding mode_numbers
returns-in-Inside c = rw c.in-Inside.is c.first_five-in-Inside.ensures
