-- `write`: written from the rows that were read from the list, the text is the list's.
use mathlib.Core.Path.{◌≡◌, sym, ◌∙◌}
use mathlib.Core.List.{map}
use lib.ListN.{length}
use lib.Seq.{paste}
use Rattle.list_rows.specs.Rows.{row_of}
use Rattle.list_rows.specs.State.{stored as in_rows}
use Rattle.engine_parts.specs.Parts.{list_code, read_of}
use Rattle.engine.proofs.Joined.{code-few, read-in, read-few}
use Rattle.save_storing.specs.Buffers.{in_buffer, written_with}
use Rattle.save.proofs.Joined.{written_same}
use Rattle.save.proofs.write.Goals as goal

pub to_rows-requires : goal.to_rows-requires
to_rows-requires c =
    rw (c.read_count-n.ensures, c.list_code-code.ensures, c.blank_rows-rows.ensures) (read-in c.args.count c.args.list.now, read-few c.args.count (length c.args.list.now))

pub write_rows-requires : goal.write_rows-requires
write_rows-requires c h = code-few c.args.count (length c.args.list.now) (sym c.list_code-code.ensures ∙ h)

pub returns : goal.returns
returns c =
    let rows_are : c.to_rows.new.rows ≡ paste c.blank_rows-rows.result 0 (map row_of c.args.list.now) (read_of (list_code c.args.count (length c.args.list.now)) c.args.count) =
    rw (← c.list_code-code.ensures, ← c.read_count-n.ensures) c.to_rows.ensures in
    let said : in_buffer c.write_rows.result c.write_rows.new.out ≡ written_with (list_code c.args.count (length c.args.list.now)) (in_rows c.args.rig c.args.tables.now c.to_rows.new.rows c.args.count) c.args.out.now =
    rw (← c.list_code-code.ensures) c.write_rows.ensures in
    said ∙ written_same c.args.rig c.args.tables.now c.args.list.now c.args.count c.blank_rows-rows.result c.to_rows.new.rows c.args.out.now c.blank_rows-rows.ensures rows_are
