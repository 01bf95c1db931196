-- `event`: the code of the list, 10, or the event played.
use mathlib.Core.Path.{◌≡◌, sym, ap, ◌∙◌}
use mathlib.Core.Bool.{Bool, not, cond}
use borrow.Author.Tests.{eq-eqb, ne_eqb, not-true, not-false}
use Rattle.model.specs.Event.{answer, tested}
use Rattle.list_rows.specs.State.{stored}
use Rattle.event_rows.specs.Tested.{tested_with}
use Rattle.event_rows.proofs.event.Goals as goal

pub returns-then-code-ne0 : goal.returns-then-code-ne0
unfolding tested_with
returns-then-code-ne0 c =
    let a = c.args in
    let s = stored a.rig a.tables.now a.list.now a.count in
    let told : tested_with a.code s a.e ≡ answer a.code s = ap (λ (b : Bool). cond (not b) (answer a.code s) (tested s a.e)) (ne_eqb a.code 0 c.if-code-ne0.true) in
    rw c.refused.ensures (sym told, c.requires.1)

pub well_shaped-requires : goal.well_shaped-requires
well_shaped-requires c = c.requires.0 c.if-code-ne0.false

pub returns-then-not-well_shaped : goal.returns-then-not-well_shaped
unfolding tested_with tested
returns-then-not-well_shaped c =
    let a = c.args in
    let s = stored a.rig a.tables.now a.list.now a.count in
    let told : tested_with a.code s a.e ≡ answer 10 s = rw (eq-eqb _ _ c.if-code-ne0.false, sym c.well_shaped.ensures ∙ not-true _ c.if-not-well_shaped.true-raw) in
    rw c.refused-then-not-well_shaped.ensures (sym told, c.requires.1)

pub step-requires : goal.step-requires
step-requires c = (sym c.well_shaped.ensures ∙ not-false _ c.if-not-well_shaped.false-raw, c.requires.1)

pub returns : goal.returns
unfolding tested_with tested
returns c = rw (eq-eqb _ _ c.if-code-ne0.false, sym c.well_shaped.ensures ∙ not-false _ c.if-not-well_shaped.false-raw) (c.step.ensures.0, c.step.ensures.1)
