-- `plan_grid`: by the contract of `plan`.
use Rattle.client_plan.proofs.Whole.{planned-grid}
use Rattle.client_plan.proofs.plan_grid.Goals as goal

pub returns : goal.returns
returns c = planned-grid _ _ _ _ (rw (c.with_word.ensures, c.nothing_given.ensures) at c.plan.ensures)
