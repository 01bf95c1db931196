-- `with_member`: the site's bit is not set, so that setting it adds it.
use Prim.Native.Nat.{◌-◌, ◌^◌}
use mathlib.Core.Path.{ap, ◌∙◌}
use native.Mathlib.Nat.{one-mul}
use native.Mathlib.Omega.{arith}
use lib.Bits.{bit_or}
use lib.Pow.{shl_exact}
use Rattle.rig_members.specs.Walk.{word_bits, with_member}
use Rattle.rig_members.proofs.Members.{or-new}
use Rattle.rig_members.proofs.with_member.Goals as goal

pub overflow_shl-result : goal.overflow_shl-result
overflow_shl-result c = omega (arith, c.requires)

pub returns : goal.returns
unfolding with_member
returns c =
    let a = c.args in
    let p = c.requires in
    ap (bit_or a.set) (shl_exact {a = 1} 1 (a.j - 1) word_bits (omega arith) (omega arith) ∙ one-mul (2 ^ (a.j - 1))) ∙ or-new a.set a.j p.0 p.2
