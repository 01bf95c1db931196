-- `earlier_keep`: what the code says of each pair.
use Rattle.std.proofs.Common.{rules}
use borrow.Author.Tests.{tests}
use Rattle.std.proofs.lemmas.Iterator.{cases_from_all, YieldsList-from_slice}
use lib.ListN.{take, get_or}
use native.Mathlib.Omega.{arith}
use mathlib.Core.Bool.{true, false}
use Rattle.setup_rules.proofs.Earlier.{PairTold, earlier-told}
use Rattle.setup_rules.proofs.earlier_keep.Goals as goal

pub returns : goal.returns
returns c =
    let a = c.args in
    let p = c.requires in
    let told = cases_from_all _ _ _ (PairTold a.rule (get_or a.sets.now a.k 0) true) (PairTold a.rule (get_or a.sets.now a.k 0) false) c.all.ensures.ran (YieldsList-from_slice (take a.k a.sets.now) cc) (λ x q k. search (rules, tests)) (λ x q k. search (rules, tests)) in
    earlier-told a.rule a.size a.sets.now a.k p.3 p.2 (omega arith) c.all.result told
