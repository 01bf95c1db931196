-- `hand_on`: a release alone, or a reply and then a release.
use mathlib.Core.Path.{refl}
use borrow.Author.Tests.{ne_eqb}
use Rattle.model.specs.Leave.{hand_on}
use Rattle.event_effects.proofs.Effects.{sent-one, sent-more}
use Rattle.site_leaves.proofs.hand_on.Goals as goal

pub returns-then-k-eq0 : goal.returns-then-k-eq0
unfolding hand_on
returns-then-k-eq0 c = rw (c.if-k-eq0.true, ← c.release.ensures) (sent-one refl c.append.ensures)

pub returns : goal.returns
unfolding hand_on
returns c =
    let s = sent-one refl (rw c.reply.ensures at c.append-n.ensures) in
    let t = sent-one refl (rw c.release-2.ensures at c.append-2.ensures) in
    rw (ne_eqb _ _ c.if-k-eq0.false) (sent-more s t)
