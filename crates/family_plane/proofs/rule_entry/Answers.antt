-- `plane::rule_entry` meets its contract.
use Prim.Native.Nat.{◌-◌}
use native.Mathlib.Nat.{div-le_self, mod-le}
use native.Mathlib.Omega.{arith}
use borrow.Author.Tests.{le-leb, lt-leb}
use Rattle.family_plane.specs.Plane.{plane_entry}
use Rattle.family_plane.proofs.rule_entry.Goals as goal

pub returns-then-n-p : goal.returns-then-n-p
unfolding plane_entry
returns-then-n-p c = simp (le-leb _ _ c.if-n-p.true) c.first_matrix.ensures

pub overflow_add-rest : goal.overflow_add-rest
overflow_add-rest c = omega (arith, div-le_self (c.args.n - c.args.p - 2) c.args.p)

pub overflow_add-rest-2 : goal.overflow_add-rest-2
overflow_add-rest-2 c = omega (arith, mod-le (c.args.n - c.args.p - 2) c.args.p)

pub other_matrix-requires : goal.other_matrix-requires
other_matrix-requires c =
    let d = div-le_self (c.args.n - c.args.p - 2) c.args.p in
    let m = mod-le (c.args.n - c.args.p - 2) c.args.p in
    (omega arith, omega arith, omega arith, omega arith, omega arith, omega arith, omega arith, omega arith)

pub returns : goal.returns
unfolding plane_entry
returns c = simp (lt-leb _ _ c.if-n-p.false) c.other_matrix.ensures
