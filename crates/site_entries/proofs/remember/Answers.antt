-- `remember`: one entry written.
use Rattle.model.proofs.Tables.{put-write}
use Rattle.model.specs.Site.{remembered}
use Rattle.site_entries.proofs.remember.Goals as goal

pub returns : goal.returns
unfolding remembered
returns c = rw (put-write _ _ _ c.requires.low)
