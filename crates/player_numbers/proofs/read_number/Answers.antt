-- `read_number`: what is left to read behind the digits so far.
use mathlib.Core.Path.{sym, ◌∙◌}
use borrow.Author.Tests.{not-true, not-false}
use native.Mathlib.Omega.{arith}
use Rattle.player_numbers.proofs.Numbers.{number-begun, leading-zero, digit_at, other_at, too_large, number-ended}
use Rattle.player_numbers.proofs.read_number.Goals as goal

pub returns-then-not-no_leading_zero : goal.returns-then-not-no_leading_zero
returns-then-not-no_leading_zero c = sym (leading-zero _ (sym c.no_leading_zero.ensures ∙ not-true _ c.if-not-no_leading_zero.true-raw))

pub returns-then-not-is_digit : goal.returns-then-not-is_digit
returns-then-not-is_digit c =
    let l = c.loop-b in
    let a = c.args in
    let z = sym c.no_leading_zero.ensures ∙ not-false _ c.if-not-no_leading_zero.false-raw in
    let d = sym c.is_digit.ensures ∙ not-true _ c.if-not-is_digit.true-raw in
    sym (number-begun a.part.now z ∙ l.invariant.1 ∙ other_at a.part.now l.n l.b-index (omega arith) d)

pub returns-then-n-gt999 : goal.returns-then-n-gt999
returns-then-n-gt999 c =
    let l = c.loop-b in
    let a = c.args in
    let z = sym c.no_leading_zero.ensures ∙ not-false _ c.if-not-no_leading_zero.false-raw in
    let d = sym c.is_digit.ensures ∙ not-false _ c.if-not-is_digit.false-raw in
    sym (number-begun a.part.now z ∙ l.invariant.1 ∙ digit_at a.part.now l.n l.b-index (omega arith) d ∙ too_large _ _ (omega arith))

pub loop-b-preserved : goal.loop-b-preserved
loop-b-preserved c =
    let l = c.loop-b in
    let a = c.args in
    let d = sym c.is_digit.ensures ∙ not-false _ c.if-not-is_digit.false-raw in
    (omega arith, l.invariant.1 ∙ rw c.with_digit-n.ensures (digit_at a.part.now l.n l.b-index (omega arith) d))

pub returns : goal.returns
returns c =
    let l = c.loop-b in
    let a = c.args in
    let z = sym c.no_leading_zero.ensures ∙ not-false _ c.if-not-no_leading_zero.false-raw in
    sym (number-begun a.part.now z ∙ l.invariant.1 ∙ number-ended a.part.now l.n l.b-index (omega arith) (omega arith))
