-- `yield_or_remember`: the tests in their order.
use mathlib.Core.Path.{refl, sym, ◌∙◌}
use borrow.Author.Tests.{eq-eqb, ne_eqb}
use Rattle.model.proofs.Tables.{at_read}
use Rattle.model.specs.Site.{yielded_or_remembered}
use Rattle.site_yields.proofs.Does.{did-only}
use Rattle.site_inquires.proofs.yield_or_remember.Goals as goal

pub returns-then-g-eq0 : goal.returns-then-g-eq0
unfolding yielded_or_remembered
returns-then-g-eq0 c =
    let d = c.args.d in
    let low = c.requires.0.low in
    rw (at_read 0 d.held _ low, c.if-g-eq0.true) (did-only _ _ c.remember-e.ensures)

pub returns-then-n-g : goal.returns-then-n-g
unfolding yielded_or_remembered
returns-then-n-g c =
    let d = c.args.d in
    let low = c.requires.0.low in
    rw (at_read 0 d.held _ low, ne_eqb _ _ c.if-g-eq0.false, ne_eqb _ _ c.if-n-g.true) (did-only _ _ refl)

pub returns-then-has_failed : goal.returns-then-has_failed
unfolding yielded_or_remembered
returns-then-has_failed c =
    let d = c.args.d in
    let low = c.requires.0.low in
    rw (at_read 0 d.held _ low, ne_eqb _ _ c.if-g-eq0.false, eq-eqb _ _ c.if-n-g.false, sym c.has_failed.ensures ∙ c.if-has_failed.true) c.yield_member.ensures

pub returns : goal.returns
unfolding yielded_or_remembered
returns c =
    let d = c.args.d in
    let low = c.requires.0.low in
    rw (at_read 0 d.held _ low, ne_eqb _ _ c.if-g-eq0.false, eq-eqb _ _ c.if-n-g.false, sym c.has_failed.ensures ∙ c.if-has_failed.false) (did-only _ _ c.remember.ensures)
