use mathlib.Core.Path.{refl}
use Rattle.plan_read_back.proofs.Lines.{sites-read, set-read}
use Rattle.plan_read_back.proofs.lines_read.Goals as goal

pub returns : goal.returns
returns c = (refl, sites-read, set-read)
