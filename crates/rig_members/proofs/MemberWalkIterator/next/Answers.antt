-- `next`: the lowest member that is left is one of its set, and what is left without it is a smaller number.
use native.Mathlib.Omega.{arith}
use Rattle.std.proofs.Common.{rules}
use Rattle.rig_members.proofs.Walk.{walk-whole, turn, turn-less}
use Rattle.rig_members.proofs.MemberWalkIterator.next.Goals as goal

pub without_member-self-requires : goal.without_member-self-requires
without_member-self-requires c = (turn (walk-whole c.args.self.now.left (omega arith)) (omega arith) c.lowest_member-j.ensures).takes

pub returns-clause-goes : goal.returns-clause-goes
returns-clause-goes c =
    let u = turn (walk-whole c.args.self.now.left (omega arith)) (omega arith) c.lowest_member-j.ensures in
    let fewer = turn-less u c.without_member-self.ensures in
    search (rules, arith)
