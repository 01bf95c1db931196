-- `entry_of`: the code's index of site k is k - 1.
use mathlib.Core.Path.{sym}
use native.Mathlib.Omega.{arith}
use borrow.Author.Rules.{rules}
use Rattle.model.specs.Tables.{at}
use Rattle.model.proofs.Tables.{at_read, at-past}
use Rattle.rig_reads.proofs.entry_of.Goals as goal
use Rattle.rig_reads.proofs.entry_of.Goals.{then-k-eq0-via-then-k-eq0, then-k-eq0-via-else-k-eq0+then-k-entries}

pub returns-then-k-eq0 : goal.returns-then-k-eq0
unfolding at
returns-then-k-eq0 c =
    let a = c.args in
    elim c.then-k-eq0.branch [
      | then-k-eq0-via-then-k-eq0 w ↦ rw w.if-k-eq0.true (search rules)
      | then-k-eq0-via-else-k-eq0+then-k-entries w ↦ sym (at-past 0 a.entries.now a.k (omega arith))
    ]

pub returns : goal.returns
returns c = sym (at_read 0 _ _ (omega arith))
