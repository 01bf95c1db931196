-- `has_about`: three tests, one after the other.
use borrow.Author.Tests.{eq-eqb, ne_eqb}
use Rattle.save_messages.specs.Messages.{has_about}
use Rattle.save_messages.proofs.has_about.Goals as goal

pub returns-then-kind-eq-REPLY : goal.returns-then-kind-eq-REPLY
unfolding has_about
returns-then-kind-eq-REPLY c = rw (eq-eqb _ _ c.if-kind-eq-REPLY.true)

pub returns-then-kind-eq-RELEASE : goal.returns-then-kind-eq-RELEASE
unfolding has_about
returns-then-kind-eq-RELEASE c = rw (ne_eqb _ _ c.if-kind-eq-REPLY.false, eq-eqb _ _ c.if-kind-eq-RELEASE.true)

pub returns-else-kind-eq-RELEASE : goal.returns-else-kind-eq-RELEASE
unfolding has_about
returns-else-kind-eq-RELEASE c = rw (ne_eqb _ _ c.if-kind-eq-REPLY.false, ne_eqb _ _ c.if-kind-eq-RELEASE.false)
