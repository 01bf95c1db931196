-- `take`: two entries written.
use Rattle.model.proofs.Tables.{at_read, put-write}
use Rattle.model.specs.Site.{taken}
use Rattle.site_entries.proofs.take.Goals as goal

pub returns : goal.returns
unfolding taken
returns c =
    let a = c.args in
    let low = c.requires.low in
    rw (put-write a.d.held _ _ low, put-write a.d.inquired _ _ low, at_read 0 a.d.inquired _ low, c.kept_inquire.ensures)
