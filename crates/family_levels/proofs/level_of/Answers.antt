-- `family_levels::level_of` meets its contract.
use native.Mathlib.Omega.{arith}
use Rattle.family_levels.proofs.Bounds.{level-range}
use Rattle.family_levels.proofs.level_of.Goals as goal

pub overflow_add-result : goal.overflow_add-result
overflow_add-result c = omega (arith, level-range c.args.a c.args.b c.args.n c.requires.1.0)
