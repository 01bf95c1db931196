-- `judge_each`: the three tests in their order.
use mathlib.Core.Path.{sym, ◌∙◌}
use native.Mathlib.Omega.{arith}
use borrow.Author.Tests.{eq-eqb, ne_eqb}
use Rattle.model.specs.Setup.{size_listed, each_code}
use Rattle.model.proofs.Setup.{size-listed, size-too-large}
use Rattle.setup_faults.proofs.Rules.{told-site, told-none, all-name}
use Rattle.setup_faults.proofs.judge_each.Goals as goal

pub returns-then-sets-ne-SITES : goal.returns-then-sets-ne-SITES
unfolding each_code size_listed
returns-then-sets-ne-SITES c =
    rw (ne_eqb _ _ c.if-sets-ne-SITES.true)

pub returns-then-size-eq0 : goal.returns-then-size-eq0
unfolding each_code size_listed
returns-then-size-eq0 c =
    rw (eq-eqb _ _ c.if-sets-ne-SITES.false, c.if-size-eq0.true)

pub returns-then-size : goal.returns-then-size
unfolding each_code
returns-then-size c =
    rw (eq-eqb _ _ c.if-sets-ne-SITES.false, size-too-large _ c.if-size.true)

pub returns-then-is_some : goal.returns-then-is_some
unfolding each_code
returns-then-is_some c =
    let told = told-site c.first_breaking.ensures (sym c.is_some.ensures ∙ c.if-is_some.true) in
    rw (eq-eqb _ _ c.if-sets-ne-SITES.false, size-listed c.args.size (omega arith) (omega arith), all-name _ _ ∙ ne_eqb _ 0 told)

pub returns : goal.returns
unfolding each_code
returns c =
    let none = told-none c.first_breaking.ensures (sym c.is_some.ensures ∙ c.if-is_some.false) in
    rw (eq-eqb _ _ c.if-sets-ne-SITES.false, size-listed c.args.size (omega arith) (omega arith), all-name _ _ ∙ eq-eqb _ 0 none)
