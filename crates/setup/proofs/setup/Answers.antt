-- `setup`: the fresh rig of sets that `judge` accepts.
use mathlib.Core.Path.{◌≡◌, sym}
use Rattle.model.specs.Setup.{fresh_rig}
use Rattle.model.proofs.Setup.{accepts}
use Rattle.model.proofs.OfRun.{starts-run}
use Rattle.setup.proofs.setup.Goals as goal

pub kept-requires : goal.kept-requires
kept-requires c =
    let a = accepts _ _ (sym (rw c.in_ok-judge.was at c.judge.ensures)) in
    (a.high, a.long)

pub returns-clause-determined : goal.returns-clause-determined
unfolding fresh_rig
returns-clause-determined c = (rw c.in_ok-judge.was at c.judge.ensures, rw (c.resting.ensures, c.kept.ensures))

pub returns-clause-starts : goal.returns-clause-starts
unfolding fresh_rig
returns-clause-starts c =
    let a = c.args in
    let fresh : c.resting.result ≡ fresh_rig a.size a.sets.now = rw (c.resting.ensures, c.kept.ensures) in
    starts-run _ _ _ (sym (rw c.in_ok-judge.was at c.judge.ensures)) fresh
