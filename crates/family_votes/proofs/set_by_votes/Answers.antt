-- `set_by_votes`: of a site of 1 to N its run, of another number nothing.
use Prim.Native.Nat.{◌≤◌}
use mathlib.Core.Bool.{false}
use mathlib.Core.Path.{refl, ◌∙◌}
use native.Mathlib.Omega.{arith}
use lib.Dec.{leb}
use borrow.Author.Tests.{le-leb, lt-leb}
use Rattle.basics.proofs.Basics.{lowest-within, and_second}
use Rattle.family_sets.specs.Rule.{set_by}
use Rattle.family_votes.specs.Votes.{run_length}
use Rattle.family_votes.proofs.set_by_votes.Goals as goal

pub returns-then-n-lt1 : goal.returns-then-n-lt1
unfolding set_by
returns-then-n-lt1 c = rw (lt-leb 1 _ c.if-n-lt1.true)

pub run_length-requires : goal.run_length-requires
run_length-requires c = let p = c.requires in (p.0, p.1, (omega arith, c.if-n-size.true))

pub run_set-requires : goal.run_set-requires
unfolding run_length
run_set-requires c =
    let p = c.requires in
    (p.0.0, (omega arith, c.if-n-size.true), lowest-within _ _ _ c.run_length.ensures)

pub returns-then-n-size : goal.returns-then-n-size
unfolding set_by
returns-then-n-size c =
    let a = c.args in
    let n : 1 ≤ a.n = omega arith in
    c.run_set.ensures ∙ rw (c.run_length.ensures, le-leb 1 a.n n, le-leb a.n a.size c.if-n-size.true)

pub returns : goal.returns
unfolding set_by
returns c =
    let a = c.args in
    rw (lt-leb a.n a.size (omega arith), and_second (leb 1 a.n) false refl)
