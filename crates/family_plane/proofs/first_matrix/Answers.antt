-- `plane::first_matrix` meets its contract.
use Prim.Native.Nat.{◌-◌}
use native.Mathlib.Omega.{arith}
use borrow.Author.Tests.{eq-eqb, ne_eqb}
use Rattle.family_plane.specs.Plane.{first_matrix}
use Rattle.basics.proofs.Numbers.{product}
use Rattle.family_plane.proofs.first_matrix.Goals as goal

pub returns-then-j-eq1 : goal.returns-then-j-eq1
unfolding first_matrix
returns-then-j-eq1 c = simp (eq-eqb _ _ c.if-j-eq1.true)

pub overflow_mul-result : goal.overflow_mul-result
overflow_mul-result c = omega (arith, product (c.args.i - 1) c.args.p (omega arith) (omega arith))

pub overflow_add-result : goal.overflow_add-result
overflow_add-result c = omega (arith, product (c.args.i - 1) c.args.p (omega arith) (omega arith))

pub returns : goal.returns
unfolding first_matrix
returns c = simp (ne_eqb _ _ c.if-j-eq1.false)
