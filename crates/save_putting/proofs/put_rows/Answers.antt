-- `put_rows`: three lines, one behind the other.
use Rattle.save_putting.proofs.Puts.{fits_line, fits-behind, puts-line}
use Rattle.save_putting.proofs.put_rows.Goals as goal

pub put_row-held-requires : goal.put_row-held-requires
put_row-held-requires c = let h = c.requires in (h.0, fits_line h.1)

pub put_row-heir-requires : goal.put_row-heir-requires
put_row-heir-requires c =
    let h = c.requires in
    (h.0, fits_line (fits-behind h.1 c.put_row-held.ensures))

pub put_row-requires : goal.put_row-requires
put_row-requires c =
    let h = c.requires in
    (h.0, fits-behind (fits-behind h.1 c.put_row-held.ensures) c.put_row-heir.ensures)

pub returns : goal.returns
returns c =
    puts-line c.put_row-held.ensures (puts-line c.put_row-heir.ensures c.put_row.ensures)
