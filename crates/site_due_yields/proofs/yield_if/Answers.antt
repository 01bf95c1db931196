-- `yield_if`: whether the member must be yielded.
use mathlib.Core.Path.{sym, ◌∙◌}
use borrow.Author.Tests.{not-true, not-false}
use Rattle.event_effects.proofs.Effects.{sent-none, sent-one, carries-sent}
use Rattle.site_due_yields.specs.Entries.{entries}
use Rattle.site_due_yields.proofs.Turn.{passed, gone}
use Rattle.site_due_yields.proofs.yield_if.Goals as goal

pub returns-then-not-is_due : goal.returns-then-not-is_due
returns-then-not-is_due c d number members =
    let a = c.args in
    let in-set = c.requires.0 in
    let must = c.is_due.ensures in
    rw (passed d (entries a.held.now a.heir.now a.inquired.now) a.i members in-set (sym must ∙ not-true _ c.if-not-is_due.true-raw)) (carries-sent sent-none)

pub returns : goal.returns
returns c d number members =
    let a = c.args in
    let in-set = c.requires.0 in
    let must = c.is_due.ensures in
    rw (gone d (entries a.held.now a.heir.now a.inquired.now) a.i members in-set number (sym must ∙ not-false _ c.if-not-is_due.false-raw)) (carries-sent (sent-one c.yielding.ensures c.append.ensures))
