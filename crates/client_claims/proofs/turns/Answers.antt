-- `turns`: a set has at most 64 members, so that their count fits; each has its turn.
use Prim.Native.Nat.{◌≤◌}
use mathlib.Core.Bool.{true}
use mathlib.Core.Logic.{inl}
use mathlib.Core.Path.{refl, ap, ◌∙◌}
use native.Mathlib.Omega.{arith}
use Rattle.basics.proofs.Basics.{count-within, count-all}
use Rattle.model.specs.Sets.{member}
use Rattle.rig_members.specs.Walk.{word_bits, members_in}
use Rattle.rig_members.proofs.Walk.{walk-whole}
use Rattle.client_claims.proofs.Walked.{walk-turns}
use Rattle.client_claims.proofs.turns.Goals as goal

pub count-requires-clause-fits : goal.count-requires-clause-fits
count-requires-clause-fits c =
    let left = c.each_member.result.left in
    let few : members_in left ≤ word_bits = omega (arith, count-within (member left) (λ k. true) word_bits (λ k a b e. refl), count-all (λ k. true) word_bits (λ k a b. refl)) in
    inl (omega (arith, few))

pub returns : goal.returns
returns c =
    let left = c.each_member.result.left in
    let ran = c.count.ensures.ran in
    ran.2 ∙ walk-turns (λ s. s.left) c.each_member.result ran.0 (walk-whole left (omega arith)) ran.1 ∙ ap members_in c.each_member.ensures
