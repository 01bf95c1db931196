-- `append`: one row stored behind the rows that count.
use native.Mathlib.Numerals.{add-one}
use lib.Seq.{take-suc-set}
use Rattle.list_rows.proofs.Rows.{behind-stored}
use Rattle.list_rows.proofs.append.Goals as goal

pub returns : goal.returns
returns c =
    let p = c.put.ensures in
    record {
      count = p.0;
      sent = rw (p.0, p.1, c.row.ensures, add-one) (take-suc-set _ _ _ c.requires);
      rest = rw (p.0, p.1) (behind-stored c.args.list.now c.args.count c.row.result);
    }
