-- `set_line`: the numbers from place `at` on, with the set so far and the least number that may follow.
use Prim.Native.Nat.{◌+◌}
use mathlib.Core.Path.{◌≡◌, sym, ◌∙◌}
use borrow.Author.Tests.{le-leb, lt-leb}
use native.Mathlib.Omega.{arith}
use lib.ListN.{length}
use Rattle.player_grammar.specs.Grammar.{before, numbers, set_line}
use Rattle.player_numbers.proofs.Numbers.{number-limit}
use Rattle.player_grammar.proofs.Lists.{set_from, numbers_at, found-comma, set-begun, set_ended, set-malformed, set-falls, set-rises, next-number}
use Rattle.player_grammar.proofs.set_line.Goals as goal
use Rattle.player_grammar.proofs.set_line.Goals.{After-read_number}

-- what is left, once the next part is read
part-read : (c : After-read_number) → set_line (numbers c.args.list.now) ≡ set_from c.loop-at.low c.loop-at.set (before c.read_number.result (numbers_at c.args.list.now (c.find-end.result + 1)))
part-read c =
    let l = c.loop-at in
    let bs = c.args.list.now in
    let end = c.find-end.result in
    l.invariant.1 ∙ rw (c.read_number.ensures, next-number bs l.at end (omega arith) (found-comma bs l.at end c.find-end.ensures.value))

pub loop-at-init : goal.loop-at-init
loop-at-init c = (omega arith, set-begun (numbers c.args.list.now) ∙ rw (le-leb 0 (length c.args.list.now) (omega arith)))

pub returns-in_err-n : goal.returns-in_err-n
returns-in_err-n c = c.from_residual.ensures ∙ sym (part-read (goal.at.returns-in_err-n c).After-read_number ∙ rw c.in_err-n.was (set-malformed _ _ _))

pub returns-then-n-low : goal.returns-then-n-low
returns-then-n-low c = sym (part-read (goal.at.returns-then-n-low c).After-read_number ∙ rw c.in_ok-n.was (set-falls _ _ _ _ c.if-n-low.true))

pub overflow_add-low : goal.overflow_add-low
overflow_add-low c =
    let l = number-limit _ _ (sym c.read_number.ensures ∙ c.in_ok-n.was) in
    omega arith

pub loop-at-preserved : goal.loop-at-preserved
loop-at-preserved c = (omega arith, part-read (goal.at.loop-at-preserved c).After-read_number ∙ rw (c.in_ok-n.was, c.site_bit-set.ensures) (set-rises _ _ _ _ c.if-n-low.false))

pub returns : goal.returns
returns c =
    let l = c.loop-at in
    let bs = c.args.list.now in
    sym (l.invariant.1 ∙ rw (lt-leb l.at (length bs) c.loop-at-test.false) (set_ended l.low l.set))
