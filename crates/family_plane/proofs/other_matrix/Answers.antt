-- `plane::other_matrix` meets its contract.
use Prim.Native.Nat.{◌-◌, ◌*◌, ◌+◌, ◌<◌}
use native.Mathlib.Nat.{mod-lt}
use native.Mathlib.Omega.{arith}
use borrow.Author.Tests.{eq-eqb, ne_eqb}
use Rattle.family_plane.specs.Plane.{other_matrix}
use Rattle.family_plane.proofs.Bounds.{first-matrix-most}
use Rattle.family_plane.proofs.other_matrix.Goals as goal

pub returns-then-j-eq1 : goal.returns-then-j-eq1
unfolding other_matrix
returns-then-j-eq1 c = simp (eq-eqb _ _ c.if-j-eq1.true)

pub overflow_add-result : goal.overflow_add-result
overflow_add-result c =
    let s = c.args in
    let l : 0 < s.p = omega arith in
    omega (
      arith,
      first-matrix-most s.p s.j 2 (omega arith) (omega arith) (omega arith),
      c.first_matrix.ensures,
      c.generating_matrix.ensures,
      mod-lt ((s.x - 2) * (s.j - 1 - 1) + (s.i - 1)) l,
    )

pub returns : goal.returns
unfolding other_matrix
returns c = simp (ne_eqb _ _ c.if-j-eq1.false) (cc)
