-- `append_all`: the first m rows of `sent`, put behind.
use mathlib.Core.Path.{refl, ◌∙◌}
use native.Mathlib.Omega.{arith}
use lib.ListN.{take}
use lib.Seq.{length-take-le, take-take}
use Rattle.std.proofs.lemmas.Slice.{put_mid-paste}
use Rattle.list_exchange.proofs.append_all.Goals as goal

pub returns : goal.returns
returns c =
    let a = c.args in
    let long = length-take-le a.m a.sent.now c.requires.1 in (
      refl,
      put_mid-paste a.count _ a.list.now _ (take a.m a.sent.now) a.m c.copy_from_slice.ensures.after (omega arith) (omega arith) ∙ rw (take-take a.m a.m a.sent.now (omega arith)),
    )
