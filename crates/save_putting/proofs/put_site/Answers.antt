-- `put_site`: the clock, the mode, and the rows.
use Rattle.model.specs.Tables.{at}
use Rattle.save_text.specs.Text.{site_fields}
use Rattle.save_putting.proofs.Puts.{value-fits, value-puts, fits_line, fits-behind, puts-line}
use Rattle.save_putting.proofs.put_site.Goals as goal

pub put_one-clock-requires : goal.put_one-clock-requires
unfolding site_fields at
put_one-clock-requires c = fits_line c.requires.1

pub put_value-next-requires : goal.put_value-next-requires
unfolding site_fields at
put_value-next-requires c =
    value-fits c.mode_value.ensures (fits_line (fits-behind c.requires.1 c.put_one-clock.ensures))

pub put_rows-requires : goal.put_rows-requires
unfolding site_fields at
put_rows-requires c =
    let h = c.requires in
    (h.0, fits-behind (fits-behind h.1 c.put_one-clock.ensures) (value-puts c.mode_value.ensures c.put_value-next.ensures))

pub returns : goal.returns
unfolding site_fields at
returns c =
    puts-line c.put_one-clock.ensures (puts-line (value-puts c.mode_value.ensures c.put_value-next.ensures) c.put_rows.ensures)
