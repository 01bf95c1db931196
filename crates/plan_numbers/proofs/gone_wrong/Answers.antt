-- `gone_wrong`: the rest stays.
use mathlib.Core.Path.{refl}
use Rattle.plan_numbers.specs.Given.{gone_wrong}
use Rattle.plan_numbers.proofs.gone_wrong.Goals as goal

pub returns : goal.returns
unfolding gone_wrong
returns c = refl
