-- `grid::grid_site` meets its contract.
use Prim.Native.Nat.{◌-◌}
use native.Mathlib.Omega.{arith}
use Rattle.basics.proofs.Numbers.{product}
use Rattle.family_grid.proofs.grid_site.Goals as goal

pub overflow_mul-result : goal.overflow_mul-result
overflow_mul-result c = omega (arith, product (c.args.i - 1) c.args.s (omega arith) (omega arith))

pub overflow_add-result : goal.overflow_add-result
overflow_add-result c = omega (arith, product (c.args.i - 1) c.args.s (omega arith) (omega arith))
