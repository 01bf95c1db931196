-- `put_one`: the line of a value of one number.
use Rattle.save_putting.proofs.Puts.{value-fits, value-puts}
use Rattle.save_putting.proofs.put_one.Goals as goal

pub put_value-requires : goal.put_value-requires
put_value-requires c = value-fits c.number_value.ensures c.requires

pub returns : goal.returns
returns c = value-puts c.number_value.ensures c.put_value.ensures
