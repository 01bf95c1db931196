-- `plane_entry`: the table for p = 5, else the rule.
use Prim.Native.Nat.{◌+◌, ◌≤◌}
use native.Mathlib.Nat.{mul-le-mul}
use native.Mathlib.Omega.{arith}
use Rattle.family_plane_table.proofs.plane_entry.Goals as goal

pub plane5_entry-requires : goal.plane5_entry-requires
plane5_entry-requires c =
    let a = rw c.if-p-eq5.true at c.requires in
    (a.2, a.3, a.4, a.5)

pub returns-then-p-eq5 : goal.returns-then-p-eq5
returns-then-p-eq5 c = rw c.if-p-eq5.true c.plane5_entry.ensures

pub rule_entry-requires : goal.rule_entry-requires
rule_entry-requires c =
    let a = c.requires in
    let k : c.args.p + 1 ≤ 6 = omega arith in
    let m = mul-le-mul a.1 k in
    (a.0, a.1, a.2, omega arith, a.4, a.5)

pub returns : goal.returns
returns c = c.rule_entry.ensures
