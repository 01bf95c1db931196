-- `lowest_member`: one more than the trailing zeros.
use mathlib.Core.Path.{sym, ◌∙◌}
use native.Mathlib.Numerals.{add-one}
use native.Mathlib.Omega.{arith}
use lib.Count.{count_trailing_zeros, trailing_le}
use Rattle.rig_members.specs.Walk.{word_bits}
use Rattle.rig_members.proofs.Members.{lowest-at}
use Rattle.rig_members.proofs.lowest_member.Goals as goal

pub returns : goal.returns
returns c = add-one (count_trailing_zeros word_bits c.args.set) ∙ sym (lowest-at c.args.set c.requires (omega arith)).lowest

pub overflow_cast-result : goal.overflow_cast-result
overflow_cast-result c = record { fits = omega (arith, trailing_le word_bits c.args.set) }

pub overflow_add-result : goal.overflow_add-result
overflow_add-result c = record { fits = omega (arith, trailing_le word_bits c.args.set) }
