-- `with_word`: by whether the word is a number.
use mathlib.Core.Path.{◌∙◌}
use Rattle.plan_numbers.specs.Given.{with_read}
use Rattle.plan_numbers.proofs.with_word.Goals as goal

pub returns-in_default : goal.returns-in_default
unfolding with_read
returns-in_default c = c.gone_wrong.ensures ∙ rw (← c.number_of.ensures, c.in_default.is)

pub returns : goal.returns
unfolding with_read
returns c = c.with_number.ensures ∙ rw (← c.number_of.ensures, c.in-Some.is)
