-- `without_member`: the member's bit is set, so that taking it away clears it.
use Prim.Native.Nat.{ℕ, ◌-◌, ◌*◌, ◌%◌, ◌^◌}
use mathlib.Core.Path.{◌≡◌, ap, ◌∙◌}
use native.Mathlib.Nat.{one-mul, le_of_eq, le_trans}
use native.Mathlib.Omega.{arith}
use lib.Pow.{shl_exact}
use Rattle.rig_members.specs.Walk.{word_bits, without_member}
use Rattle.rig_members.proofs.Members.{Placed, member-placed}
use Rattle.rig_members.proofs.without_member.Goals as goal

-- the bit that the code shifts to its place
bit : {set j : ℕ} → Placed word_bits set j → 1 * 2 ^ (j - 1) % 2 ^ word_bits ≡ 2 ^ (j - 1)
bit {set} {j} p = shl_exact {a = 1} 1 (j - 1) word_bits (omega arith) (omega (arith, p.low, p.high)) ∙ one-mul (2 ^ (j - 1))

pub overflow_sub-result : goal.overflow_sub-result
overflow_sub-result c = (member-placed word_bits c.args.set c.args.j (omega arith) c.requires).low

pub overflow_shl-result : goal.overflow_shl-result
overflow_shl-result c =
    let p = member-placed word_bits c.args.set c.args.j (omega arith) c.requires in
    omega (arith, p.low, p.high)

pub overflow_sub-result-2 : goal.overflow_sub-result-2
overflow_sub-result-2 c =
    let p = member-placed word_bits c.args.set c.args.j (omega arith) c.requires in
    le_trans (le_of_eq (bit p)) p.least

pub returns : goal.returns
unfolding without_member
returns c = ap (λ b. c.args.set - b) (bit (member-placed word_bits c.args.set c.args.j (omega arith) c.requires))
