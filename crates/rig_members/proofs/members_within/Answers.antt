-- `members_within`: the low n bits.
use native.Mathlib.Nat.{one-mul}
use native.Mathlib.Omega.{arith}
use lib.Bits.{and_mask}
use lib.Pow.{pow_pos, shl_exact}
use Rattle.rig_members.specs.Walk.{within}
use Rattle.rig_members.proofs.members_within.Goals as goal

pub overflow_sub-result : goal.overflow_sub-result
overflow_sub-result c = rw (shl_exact {a = 1} 1 c.args.n 64 (omega arith) (omega arith), one-mul) (pow_pos c.args.n)

pub returns : goal.returns
unfolding within
returns c = rw (shl_exact {a = 1} 1 c.args.n 64 (omega arith) (omega arith), one-mul) (and_mask c.args.set c.args.n)
