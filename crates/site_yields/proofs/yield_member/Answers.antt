-- `yield_member`: one message, and three entries cleared.
use Rattle.model.proofs.Tables.{at_read, put-write}
use Rattle.model.specs.Site.{failed_set, yielded}
use Rattle.site_yields.proofs.yield_member.Goals as goal

pub returns : goal.returns
unfolding yielded failed_set
returns c =
    let d = c.args.d in
    let low = c.requires.0.low in
    let e = c.append-n.ensures in record {
      desk = rw (c.failed_set-e.ensures, put-write d.held _ _ low, put-write d.heir _ _ low, put-write d.inquired _ _ low);
      appends = rw (at_read 0 d.held _ low) (rw c.yielding.ensures at e);
    }
