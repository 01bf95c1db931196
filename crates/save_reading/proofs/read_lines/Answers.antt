-- `read_lines`: the parts, one behind the other.
use Prim.Native.Nat.{suc}
use mathlib.Core.Path.{◌≡◌}
use native.Mathlib.Omega.{arith}
use Rattle.save_text.specs.Reading.{site_line, accepted_line, message_line}
use Rattle.save_reading.specs.Places.{line_start}
use Rattle.save_reading.proofs.Places.{start-within}
use Rattle.save_reading.proofs.Whole.{size-read, too_large, too-many-parts, gives-parts}
use Rattle.save_reading.proofs.read_lines.Goals as goal

pub returns-then-size : goal.returns-then-size
returns-then-size c =
    let text = c.args.text.now in
    let first = c.take_line-first in
    let size = c.size_of-size in
    too_large text size.result (size-read text size.result first.result first.ensures size.ensures) c.if-size.true

pub read_sets-next-requires : goal.read_sets-next-requires
unfolding line_start
read_sets-next-requires c = (rw c.take_line-first.ensures, omega arith)

pub take_numbers-next-requires : goal.take_numbers-next-requires
take_numbers-next-requires c =
    let text = c.args.text.now in
    rw c.read_sets-next.ensures (start-within text (accepted_line c.size_of-size.result))

pub read_sites-next-requires : goal.read_sites-next-requires
unfolding line_start
read_sites-next-requires c =
    let n = c.size_of-size.result in
    let e : site_line n 1 ≡ suc (accepted_line n) = omega arith in
    (rw (c.take_numbers-next.ensures, c.read_sets-next.ensures, e), c.if-size.false, c.requires.0)

pub read_messages-requires : goal.read_messages-requires
read_messages-requires c =
    let text = c.args.text.now in
    (rw c.read_arbiters-next.ensures.value (start-within text (message_line c.size_of-size.result)), c.requires.1)

pub returns-in_err-count : goal.returns-in_err-count
returns-in_err-count c =
    let text = c.args.text.now in
    let first = c.take_line-first in
    let size = c.size_of-size in
    let arbiters = c.read_arbiters-next in
    rw c.from_residual.ensures
    (too-many-parts text size.result (size-read text size.result first.result first.ensures size.ensures) c.if-size.false
    c.read_sets-next.result c.take_numbers-next.result c.read_sites-next.result arbiters.result arbiters.ensures.value c.in_err-count.ensures)

pub returns : goal.returns
returns c =
    let text = c.args.text.now in
    let first = c.take_line-first in
    let size = c.size_of-size in
    let sets = c.read_sets-next in
    let events = c.take_numbers-next in
    let sites = c.read_sites-next in
    let arbiters = c.read_arbiters-next in
    gives-parts text size.result (size-read text size.result first.result first.ensures size.ensures) c.if-size.false
    sets.result events.result sites.result arbiters.result arbiters.ensures.value c.in_ok-count.count _ _
    sets.ensures events.ensures sites.ensures.value arbiters.ensures.tables_after c.in_ok-count.ensures
