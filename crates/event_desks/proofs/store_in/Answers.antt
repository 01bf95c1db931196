-- `store_in`: a store in each table.
use Rattle.event_desks.proofs.Rows.{rows-stored}
use Rattle.event_desks.proofs.store_in.Goals as goal

pub returns : goal.returns
returns c =
    let a = c.args in
    let p = c.requires in
    rows-stored a.tables.now a.s a.d p.1 p.0.low
