-- `put_state`: the lines of a well-shaped state fit on the page, and are its text.
use borrow.Author.Rules.{rules}
use native.Mathlib.Omega.{arith}
use Rattle.model.proofs.Shaped.{shaped}
use Rattle.list_rows.specs.State.{stored}
use Rattle.save_writing.proofs.State.{state-fits, state-printed}
use Rattle.save_writing.proofs.put_state.Goals as goal

pub put_lines-requires : goal.put_lines-requires
put_lines-requires c =
    let a = c.args in
    let e = c.requires in
    let s = stored a.rig a.tables.now a.list.now a.count in
    let h = shaped s e in
    (h.sets.high, omega (arith, h.few), state-fits s e _ (search rules))

pub returns : goal.returns
returns c =
    let a = c.args in
    let s = stored a.rig a.tables.now a.list.now a.count in
    state-printed s c.requires a.page.now (search rules) c.put_lines.ensures
