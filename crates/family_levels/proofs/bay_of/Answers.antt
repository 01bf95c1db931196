-- `family_levels::bay_of` meets its contract.
use native.Mathlib.Omega.{arith}
use Rattle.family_levels.proofs.Bounds.{bay-range}
use Rattle.family_levels.proofs.bay_of.Goals as goal

pub overflow_add-result : goal.overflow_add-result
overflow_add-result c = omega (arith, bay-range c.args.a c.args.b c.args.n c.requires.1.0)
