-- `read`: what is read into the rows of zeros, and from them into the list, is what the text says.
use mathlib.Core.Path.{◌∙◌}
use Rattle.save.proofs.Joined.{from_in, from-full, read-joined}
use Rattle.save.proofs.read.Goals as goal

pub rewrite-requires : goal.rewrite-requires
rewrite-requires c =
    rw c.read_from.ensures (
      from_in c.args.text.now c.args.tables.now c.read_rows-r.new.tables c.args.list.now c.read_rows-r.new.list c.read_rows-r.result c.read_rows-r.ensures c.read_rows-r.array_long2,
      from-full c.args.text.now c.args.tables.now c.read_rows-r.new.tables c.args.list.now c.read_rows-r.new.list c.read_rows-r.result c.read_rows-r.ensures c.read_rows-r.array_long2,
    )

pub returns : goal.returns
returns c =
    read-joined c.args.text.now c.args.tables.now c.read_rows-r.new.tables c.args.list.now c.read_rows-r.new.list c.read_rows-r.result c.read_rows-r.ensures c.read_rows-r.array_long2
    c.rewrite.new.list (c.rewrite.ensures ∙ rw c.read_from.ensures)
