-- `nothing_given`: no word, and no number.
use mathlib.Core.Path.{refl}
use Rattle.plan_numbers.specs.Given.{nothing_given}
use Rattle.plan_numbers.proofs.nothing_given.Goals as goal

pub returns : goal.returns
unfolding nothing_given
returns c = refl
