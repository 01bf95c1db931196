-- `family_levels::row_of` meets its contract.
use native.Mathlib.Omega.{arith}
use Rattle.family_levels.proofs.Bounds.{row-range}
use Rattle.family_levels.proofs.row_of.Goals as goal

pub overflow_add-result : goal.overflow_add-result
overflow_add-result c = omega (arith, row-range c.args.a c.args.b c.args.n c.requires.1.0)
