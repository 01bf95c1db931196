-- `is_text_of`: the shape, then the text.
use mathlib.Core.Path.{◌∙◌, sym}
use Rattle.player_printing.proofs.Lines.{printed-part}
use Rattle.save_text.specs.Text.{text_of}
use Rattle.save_text.specs.Reading.{is_text_of}
use Rattle.save_matching.proofs.is_text_of.Goals as goal

pub returns-then-not-well_shaped : goal.returns-then-not-well_shaped
unfolding is_text_of text_of
returns-then-not-well_shaped c = rw (sym c.well_shaped.ensures ∙ c.if-not-well_shaped.true)

pub put_state-n-requires : goal.put_state-n-requires
put_state-n-requires c = (sym c.well_shaped.ensures ∙ c.if-not-well_shaped.false)

pub slice_bounds-page-end : goal.slice_bounds-page-end
slice_bounds-page-end c = (printed-part c.put_state-n.ensures).0

pub slice_bounds-same_bytes-end : goal.slice_bounds-same_bytes-end
slice_bounds-same_bytes-end c = (printed-part c.put_state-n.ensures).1

pub returns : goal.returns
unfolding is_text_of text_of
returns c =
    rw (sym c.well_shaped.ensures ∙ c.if-not-well_shaped.false) (c.same_bytes.ensures ∙ rw c.put_state-n.ensures.text)
