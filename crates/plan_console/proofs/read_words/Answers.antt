-- `read_words`: no word at first, and with each turn one more.
use Rattle.std.proofs.Common.{◌+◌, ◌-◌, ◌≡◌, arith}
use Rattle.plan_console.proofs.Words.{none_read, more-read}
use Rattle.plan_console.proofs.read_words.Goals as goal

pub loop-i-init : goal.loop-i-init
loop-i-init g c =
    let a = c.args in
    let e : a.first - a.first ≡ 0 = omega arith in
    (omega arith, rw e (none_read _ c.nothing_given-given.ensures))

pub loop-i-preserved : goal.loop-i-preserved
loop-i-preserved g c =
    let a = c.args in
    let l = c.loop-i in
    let e : l.i + 1 - a.first ≡ l.i - a.first + 1 = omega (arith, l.auto.i) in
    (omega (arith, l.auto.i, c.loop-i-test.true), rw e (more-read _ _ l.invariant.1 c.read_word-given.ensures))

pub returns : goal.returns
returns g c =
    let a = c.args in
    let l = c.loop-i in
    let e : l.i - a.first ≡ a.end - a.first = omega (arith, l.auto.i, l.invariant.0, c.loop-i-test.false) in
    rw e at l.invariant.1
