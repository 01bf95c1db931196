-- `take_message`: a line and a store.
use Rattle.save_taking.proofs.take_message.Goals as goal

pub returns : goal.returns
returns c =
    let e = c.take_numbers-taken.ensures in
    record {
      value = rw e;
      list_after = rw (c.row.ensures, c.message_from.ensures, e);
    }
