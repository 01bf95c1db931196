-- `enter_or_yield`: no inquire for j is remembered.
use mathlib.Core.Path.{refl, sym, ◌∙◌}
use borrow.Author.Tests.{not-false}
use Rattle.model.proofs.Tables.{at_read}
use Rattle.model.specs.Site.{entered_or_yielded}
use Rattle.site_yields.proofs.Does.{did-only}
use Rattle.site_replies.proofs.enter_or_yield.Goals as goal

pub returns-then-q-eq0 : goal.returns-then-q-eq0
unfolding entered_or_yielded
returns-then-q-eq0 c =
    let d = c.args.d in
    let low = c.requires.0.low in
    rw (sym c.all_held.ensures ∙ c.if-all_held.false, sym c.has_failed.ensures ∙ not-false _ c.if-not-has_failed.false-raw, at_read 0 d.inquired _ low, c.if-q-eq0.true) (did-only _ _ refl)
