-- `write_rows`: the code of the list, the shape, the room.
use native.Mathlib.Omega.{arith}
use Rattle.player_printing.proofs.Lines.{printed-part}
use Rattle.save_storing.proofs.Writing.{coded, misshapen, too_short, at_front}
use mathlib.Core.Path.{sym, ◌∙◌}
use Rattle.save_storing.proofs.write_rows.Goals as goal

pub returns-then-code-ne0 : goal.returns-then-code-ne0
returns-then-code-ne0 c = rw c.refused.ensures (coded _ _ _ c.if-code-ne0.true)

pub well_shaped-requires : goal.well_shaped-requires
well_shaped-requires c = c.requires c.if-code-ne0.false

pub returns-then-not-well_shaped : goal.returns-then-not-well_shaped
returns-then-not-well_shaped c =
    rw c.refused-then-not-well_shaped.ensures (misshapen _ _ _ c.if-code-ne0.false (sym c.well_shaped.ensures ∙ c.if-not-well_shaped.true))

pub put_state-n-requires : goal.put_state-n-requires
put_state-n-requires c = (sym c.well_shaped.ensures ∙ c.if-not-well_shaped.false)

pub returns-then-n-out : goal.returns-then-n-out
returns-then-n-out c =
    rw c.refused-then-n-out.ensures
    (too_short _ _ _ c.if-code-ne0.false (sym c.well_shaped.ensures ∙ c.if-not-well_shaped.false) c.put_state-n.ensures c.if-n-out.true)

pub slice_bounds-page-end : goal.slice_bounds-page-end
slice_bounds-page-end c = (printed-part c.put_state-n.ensures).0

pub slice_bounds-put_word-end : goal.slice_bounds-put_word-end
slice_bounds-put_word-end c = (printed-part c.put_state-n.ensures).1

pub put_word-requires : goal.put_word-requires
put_word-requires c = omega (arith, (printed-part c.put_state-n.ensures).1, c.if-n-out.false)

pub returns : goal.returns
returns c =
    at_front _ _ _ c.if-code-ne0.false (sym c.well_shaped.ensures ∙ c.if-not-well_shaped.false) c.put_state-n.ensures c.if-n-out.false c.put_word.ensures
