-- `put_value`: one line.
use Rattle.save_putting.proofs.Puts.{line-room, line-puts}
use Rattle.save_putting.proofs.put_value.Goals as goal

pub put_line-requires : goal.put_line-requires
put_line-requires c = let h = c.requires in (h.0, line-room h.1)

pub returns : goal.returns
returns c = line-puts c.put_line.ensures
