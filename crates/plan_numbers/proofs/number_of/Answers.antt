-- `number_of`: what is left to read behind the digits so far.
use mathlib.Core.Path.{sym, ◌∙◌}
use native.Mathlib.Omega.{arith}
use Rattle.basics.proofs.Tests.{failed, passed}
use Rattle.plan_numbers.proofs.Numbers.{number-begun, leading-zero, digit_at, other_at, number-ended}
use Rattle.plan_numbers.proofs.number_of.Goals as goal

pub returns-then-not-no_leading_zero : goal.returns-then-not-no_leading_zero
returns-then-not-no_leading_zero c = sym (leading-zero _ (failed c.no_leading_zero.ensures c.if-not-no_leading_zero.true-raw))

pub loop-b-init : goal.loop-b-init
loop-b-init c = (omega arith, number-begun _ (passed c.no_leading_zero.ensures c.if-not-no_leading_zero.false-raw))

pub returns-then-not-is_digit : goal.returns-then-not-is_digit
returns-then-not-is_digit c =
    let l = c.loop-b in
    let a = c.args in
    sym (l.invariant.1 ∙ other_at a.word.now l.n l.b-index (omega arith) (failed c.is_digit.ensures c.if-not-is_digit.true-raw))

pub loop-b-preserved : goal.loop-b-preserved
loop-b-preserved c =
    let l = c.loop-b in
    let a = c.args in
    let d = passed c.is_digit.ensures c.if-not-is_digit.false-raw in
    (omega (arith, c.with_digit-n.ensures), l.invariant.1 ∙ rw c.with_digit-n.ensures (digit_at a.word.now l.n l.b-index (omega arith) d))

pub returns : goal.returns
returns c =
    let l = c.loop-b in
    let a = c.args in
    sym (l.invariant.1 ∙ number-ended a.word.now l.n l.b-index (omega arith) (omega arith))
