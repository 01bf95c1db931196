-- `stop_here`: the line stands on a page, and goes to the output.
use native.Mathlib.Omega.{arith}
use mathlib.Core.Path.{refl}
use Rattle.player_printing.proofs.Lines.{printed-part}
use Rattle.player_events.proofs.Reading.{fits-page, copied}
use Rattle.player_events.proofs.stop_here.Goals as goal

pub slice_bounds-page-end : goal.slice_bounds-page-end
slice_bounds-page-end c = (printed-part c.stop-said.ensures.1).0

pub slice_bounds-put_word-end : goal.slice_bounds-put_word-end
slice_bounds-put_word-end c = (printed-part c.stop-said.ensures.1).1

pub put_word-to-requires : goal.put_word-to-requires
put_word-to-requires c = let f = fits-page c.stop-said.ensures.1 refl in omega arith

pub returns : goal.returns
returns c =
    let said = c.stop-said.ensures in
    let w = copied said.1 refl c.requires c.put_word-to.ensures in
    record { player = said.0; read = refl; printed = rw c.one_more.ensures at w.0; room = w.1 }
