-- `take_rows`: a line and a store for each of three tables.
use Rattle.save_taking.proofs.Places.{behind-within}
use Rattle.save_taking.proofs.take_rows.Goals as goal

pub take_row-next-requires-2 : goal.take_row-next-requires-2
take_row-next-requires-2 c =
    let a = c.args in
    rw c.take_row-next.ensures (behind-within a.text.now a.at)

pub take_row-next-requires-3 : goal.take_row-next-requires-3
take_row-next-requires-3 c =
    let a = c.args in
    rw c.take_row-next-2.ensures (behind-within a.text.now c.take_row-next.result.next)

pub returns : goal.returns
returns c =
    let first = c.take_row-next.ensures in
    let second = c.take_row-next-2.ensures in
    let third = c.take_row-next-3.ensures in
    record {
      value = rw (third, second, first);
      tables_after = rw (third, second, first);
    }
