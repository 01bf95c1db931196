-- `billiard::column_of` meets its contract.
use borrow.Author.Tests.{eq-eqb, ne_eqb}
use Rattle.family_billiard.specs.Billiard.{mod_from_one}
use Rattle.family_billiard.proofs.column_of.Goals as goal

pub returns-then-rest-eq0 : goal.returns-then-rest-eq0
unfolding mod_from_one
returns-then-rest-eq0 c = simp (eq-eqb _ _ c.if-rest-eq0.true)

pub returns-else-rest-eq0 : goal.returns-else-rest-eq0
unfolding mod_from_one
returns-else-rest-eq0 c = simp (ne_eqb _ _ c.if-rest-eq0.false)
