-- `print_members`: what a turn of the walk gives.
use native.Mathlib.Omega.{arith}
use Rattle.rig_members.proofs.Walk.{turn, turn-again, walk_begins}
use Rattle.print_families.proofs.print_members.Goals as goal

pub loop-j-init : goal.loop-j-init
loop-j-init g c = (tt, tt, walk_begins 40 c.args.set (omega arith) cc)

pub print_member-requires : goal.print_member-requires
print_member-requires g c =
    let t = c.in-Some.ensures.steps in
    (turn c.loop-j.invariant.2 t.0 t.1).visits

pub loop-j-preserved : goal.loop-j-preserved
loop-j-preserved g c =
    let t = c.in-Some.ensures.steps in
    (tt, tt, turn-again (turn c.loop-j.invariant.2 t.0 t.1) t.2)
