-- `family_rules::set_at` meets its contract.
use borrow.Author.Tests.{le-leb, lt-leb}
use Rattle.family_sets.specs.Rule.{set_by}
use Rattle.family_rules.proofs.set_at.Goals as goal
use Rattle.family_rules.proofs.set_at.Goals.{else-n-ge1-via-then-n-ge1+else-n-size_of, else-n-ge1-via-else-n-ge1}

pub returns-else-n-ge1 : goal.returns-else-n-ge1
unfolding set_by
returns-else-n-ge1 c =
    elim c.else-n-ge1.branch [
      | else-n-ge1-via-then-n-ge1+else-n-size_of w ↦ rw (le-leb _ _ w.if-n-ge1.true, lt-leb _ _ (rw w.size_of.ensures at w.if-n-size_of.false))
      | else-n-ge1-via-else-n-ge1 w ↦ rw (lt-leb _ _ w.if-n-ge1.false)
    ]
