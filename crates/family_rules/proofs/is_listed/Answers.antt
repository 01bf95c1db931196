-- `family_rules::is_listed` meets its contract: one arm for each family.
use borrow.Author.Tests.{le-leb, lt-leb, eq-eqb, ne_eqb}
use Rattle.family_rules.specs.Family.{listed}
use Rattle.family_rules.proofs.is_listed.Goals as goal

pub returns-then-s-ge1 : goal.returns-then-s-ge1
unfolding listed
returns-then-s-ge1 c = rw c.in-Grid.is (simp (le-leb _ _ c.if-s-ge1.true))

pub returns-else-s-ge1 : goal.returns-else-s-ge1
unfolding listed
returns-else-s-ge1 c = rw c.in-Grid.is (simp (lt-leb _ _ c.if-s-ge1.false))

pub returns-then-q-eq3 : goal.returns-then-q-eq3
unfolding listed
returns-then-q-eq3 c = rw c.in-Billiard.is (simp (eq-eqb _ _ c.if-q-eq3.true))

pub returns-then-q-eq5 : goal.returns-then-q-eq5
unfolding listed
returns-then-q-eq5 c = rw c.in-Billiard.is (simp (ne_eqb _ _ c.if-q-eq3.false, eq-eqb _ _ c.if-q-eq5.true))

pub returns-else-q-eq5 : goal.returns-else-q-eq5
unfolding listed
returns-else-q-eq5 c = rw c.in-Billiard.is (simp (ne_eqb _ _ c.if-q-eq3.false, ne_eqb _ _ c.if-q-eq5.false))

pub returns-then-p-eq2 : goal.returns-then-p-eq2
unfolding listed
returns-then-p-eq2 c = rw c.in-Plane.is (simp (eq-eqb _ _ c.if-p-eq2.true))

pub returns-then-p-eq3 : goal.returns-then-p-eq3
unfolding listed
returns-then-p-eq3 c = rw c.in-Plane.is (simp (ne_eqb _ _ c.if-p-eq2.false, eq-eqb _ _ c.if-p-eq3.true))

pub returns-else-p-eq3 : goal.returns-else-p-eq3
unfolding listed
returns-else-p-eq3 c = rw c.in-Plane.is (simp (ne_eqb _ _ c.if-p-eq2.false, ne_eqb _ _ c.if-p-eq3.false))

pub returns-in-Levels : goal.returns-in-Levels
unfolding listed
returns-in-Levels c = rw c.in-Levels.is c.sides_listed.ensures
