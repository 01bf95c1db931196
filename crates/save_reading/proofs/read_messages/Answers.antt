-- `read_messages`: the rows so far, zeros behind them, and the lines that are left.
use Prim.Native.Nat.{◌<◌}
use mathlib.Core.Path.{◌≡◌, refl, ◌∙◌}
use native.Mathlib.Numerals.{add-one}
use native.Mathlib.Omega.{arith}
use borrow.Author.Tests.{lt-leb, le-leb}
use lib.ListN.{length, drop}
use Rattle.rig.specs.Limits.{message_limit}
use Rattle.save_lines.specs.Lines.{lines_in}
use Rattle.save_taking.proofs.Places.{behind-within}
use Rattle.save_reading.proofs.Messages.{rows_long, row_more, all-rows, line_read, line-passed, more_left, none_more}
use Rattle.save_reading.proofs.read_messages.Goals as goal

pub loop-next-init : goal.loop-next-init
loop-next-init c = (c.requires.0, omega arith, omega arith, refl, c.requires.1)

pub returns-then-count-eq-MESSAGES : goal.returns-then-count-eq-MESSAGES
returns-then-count-eq-MESSAGES c =
    let l = c.loop-next in
    let a = c.args in
    let ls = lines_in (drop a.at a.text.now) in
    let more = more_left a.text.now ls l.count l.next l.invariant.0 l.invariant.3 (omega arith) in
    lt-leb (length ls) message_limit (omega arith)

pub take_message-next-requires : goal.take_message-next-requires
take_message-next-requires c =
    let l = c.loop-next in
    let a = c.args in
    (l.invariant.0, rw (l.invariant.4, rows_long (lines_in (drop a.at a.text.now)) l.count l.invariant.2 l.invariant.1) (omega arith))

pub loop-next-preserved : goal.loop-next-preserved
loop-next-preserved c =
    let l = c.loop-next in
    let a = c.args in
    let text = a.text.now in
    let ls = lines_in (drop a.at text) in
    let more = more_left text ls l.count l.next l.invariant.0 l.invariant.3 (omega arith) in
    let room : l.count < message_limit = omega arith in (
      rw c.take_message-next.ensures.value (behind-within text l.next),
      omega arith,
      omega arith,
      rw (c.take_message-next.ensures.value, add-one l.count) (line-passed text ls l.count l.next l.invariant.0 l.invariant.3),
      rw (c.take_message-next.ensures.list_after, l.invariant.4, line_read text ls l.count l.next l.invariant.0 l.invariant.3, add-one l.count) (row_more ls l.count more room),
    )

pub returns : goal.returns
returns c =
    let l = c.loop-next in
    let a = c.args in
    let ls = lines_in (drop a.at a.text.now) in
    let none = none_more a.text.now ls l.count l.next l.invariant.0 l.invariant.3 (omega arith) in
    let e : l.count ≡ length ls = omega arith in
    record { all = le-leb (length ls) message_limit (omega arith); count = e; rows = l.invariant.4 ∙ all-rows ls l.count e }
