-- `take_off`: the gap is closed, and the place that is left becomes blank.
use native.Mathlib.Numerals.{add-one}
use native.Mathlib.Omega.{arith}
use Rattle.list_exchange.proofs.Gap.{gap-taken}
use Rattle.list_exchange.proofs.take_off.Goals as goal

pub returns : goal.returns
returns c = (omega arith, gap-taken _ _ c.args.place c.args.count _ (omega arith) (omega arith) (rw add-one at c.copy_within.ensures.after))
