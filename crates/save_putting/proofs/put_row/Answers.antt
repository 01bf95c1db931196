-- `put_row`: the line of the entries of one row.
use Rattle.save_putting.proofs.Puts.{value-fits, value-puts}
use Rattle.save_putting.proofs.put_row.Goals as goal

pub put_value-requires : goal.put_value-requires
put_value-requires c = value-fits c.entries_value.ensures c.requires.1

pub returns : goal.returns
returns c = value-puts c.entries_value.ensures c.put_value.ensures
