-- `plane::generating_matrix` meets its contract.
use Prim.Native.Nat.{◌-◌}
use native.Mathlib.Omega.{arith}
use Rattle.basics.proofs.Numbers.{product}
use Rattle.family_plane.proofs.generating_matrix.Goals as goal

pub overflow_mul-result : goal.overflow_mul-result
overflow_mul-result c = omega (arith, product (c.args.x - 2) (c.args.j - 1) (omega arith) (omega arith))

pub overflow_add-result : goal.overflow_add-result
overflow_add-result c = omega (arith, product (c.args.x - 2) (c.args.j - 1) (omega arith) (omega arith))
