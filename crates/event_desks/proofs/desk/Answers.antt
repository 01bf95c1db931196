-- `desk`: each part at its place.
use Rattle.event_desks.proofs.Rows.{desk-read}
use Rattle.event_desks.proofs.desk.Goals as goal

pub returns : goal.returns
returns c =
    let a = c.args in
    desk-read a.size a.s a.set a.site a.arbiter a.tables.now c.requires.low
