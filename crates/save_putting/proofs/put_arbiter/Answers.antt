-- `put_arbiter`: three lines, one behind the other.
use Rattle.model.specs.Tables.{at}
use Rattle.save_text.specs.Text.{arbiter_fields}
use Rattle.save_putting.proofs.Puts.{value-fits, value-puts, fits_line, fits-behind, puts-line}
use Rattle.save_putting.proofs.Askers.{askers-row}
use Rattle.save_putting.proofs.put_arbiter.Goals as goal

pub put_one-grant-requires : goal.put_one-grant-requires
unfolding arbiter_fields at
put_one-grant-requires c = fits_line c.requires.1

pub put_value-holder-requires : goal.put_value-holder-requires
unfolding arbiter_fields at
put_value-holder-requires c =
    let h = c.requires in
    value-fits c.holder_value.ensures (fits_line (fits-behind h.1 c.put_one-grant.ensures))

pub put_row-requires : goal.put_row-requires
unfolding arbiter_fields at
put_row-requires c =
    let h = c.requires in
    let a = c.args in
    let holder = value-puts c.holder_value.ensures c.put_value-holder.ensures in
    let row = askers-row a.rig.sets a.i c.askers-set.ensures in
    (h.0, rw row (fits-behind (fits-behind h.1 c.put_one-grant.ensures) holder))

pub returns : goal.returns
unfolding arbiter_fields at
returns c =
    let a = c.args in
    let holder = value-puts c.holder_value.ensures c.put_value-holder.ensures in
    let row = askers-row a.rig.sets a.i c.askers-set.ensures in
    puts-line c.put_one-grant.ensures (puts-line holder (rw row at c.put_row.ensures))
