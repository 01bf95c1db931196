-- `site_after`: by whether site m is the last.
use borrow.Author.Tests.{eq-eqb, ne_eqb}
use Rattle.family_votes.specs.Votes.{site_after}
use Rattle.family_votes.proofs.site_after.Goals as goal

pub returns-then-m-size : goal.returns-then-m-size
unfolding site_after
returns-then-m-size c = let a = c.args in rw (eq-eqb a.m a.size c.if-m-size.true)

pub returns-else-m-size : goal.returns-else-m-size
unfolding site_after
returns-else-m-size c = let a = c.args in rw (ne_eqb a.m a.size c.if-m-size.false)
