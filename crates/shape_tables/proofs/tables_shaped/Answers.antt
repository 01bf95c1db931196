-- `tables_shaped`: its four tests, in the order of the definition.
use mathlib.Core.Path.{◌≡◌}
use mathlib.Core.Bool.{false}
use mathlib.Core.List.{[]}
use lib.ListN.{get_or}
use Rattle.rig.specs.Limits.{INQUIRED}
use Rattle.basics.proofs.Tests.{failed, passed, and-failed, and-passed}
use Rattle.model.specs.Shape.{own_shaped, everywhere}
use Rattle.shape_cells.specs.Cells.{cell_shaped}
use Rattle.shape_tables.proofs.tables_shaped.Goals as goal

pub returns-then-not-table_shaped : goal.returns-then-not-table_shaped
unfolding cell_shaped
returns-then-not-table_shaped c = and-failed _ (failed c.table_shaped.ensures c.if-not-table_shaped.true-raw)

pub returns-then-not-table_shaped-2 : goal.returns-then-not-table_shaped-2
unfolding cell_shaped
returns-then-not-table_shaped-2 c =
    let one = c in
    and-passed (passed one.table_shaped.ensures one.if-not-table_shaped.false-raw) (and-failed _ (failed c.table_shaped-2.ensures c.if-not-table_shaped-2.true-raw))

pub returns-then-not-table_shaped-3 : goal.returns-then-not-table_shaped-3
unfolding cell_shaped
returns-then-not-table_shaped-3 c =
    let two = c in
    let one = two in
    let a = one.args in
    let inquired : everywhere (own_shaped a.sets.now) (get_or a.tables.now INQUIRED []) ≡ false = failed c.table_shaped-3.ensures c.if-not-table_shaped-3.true-raw in
    and-passed (passed one.table_shaped.ensures one.if-not-table_shaped.false-raw)
    (and-passed (passed two.table_shaped-2.ensures two.if-not-table_shaped-2.false-raw)
    (and-failed _ inquired))

pub returns : goal.returns
unfolding cell_shaped
returns c =
    let three = c in
    let two = three in
    let one = two in
    and-passed (passed one.table_shaped.ensures one.if-not-table_shaped.false-raw)
    (and-passed (passed two.table_shaped-2.ensures two.if-not-table_shaped-2.false-raw)
    (and-passed (passed three.table_shaped-3.ensures three.if-not-table_shaped-3.false-raw)
    c.table_shaped-4.ensures))
