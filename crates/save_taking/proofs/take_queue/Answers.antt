-- `take_queue`: a line and a store.
use Rattle.save_taking.proofs.take_queue.Goals as goal

pub returns : goal.returns
returns c =
    let e = c.take_row-next.ensures in
    record {
      value = rw e;
      tables_after = rw e;
    }
