-- `next_line`: up to the first byte 10, where there is one.
use mathlib.Core.Path.{sym, ap, ◌∙◌}
use native.Mathlib.Omega.{arith}
use lib.ListN.{length-drop}
use Rattle.player_text.specs.Player.{event_in}
use Rattle.player_next.proofs.Found.{found}
use Rattle.player_next.proofs.next_line.Goals as goal

pub returns-then-end-text : goal.returns-then-end-text
returns-then-end-text c =
    let a = c.args in
    let f = found a.text.now a.from c.find-end.result c.find-end.ensures.value in
    omega (arith, length-drop a.from a.text.now)

pub returns : goal.returns
returns c =
    let a = c.args in
    let f = found a.text.now a.from c.find-end.result c.find-end.ensures.value in
    (record { within = c.if-end-text.false; first = f }, ap event_in (sym c.meaning-m.ensures) ∙ sym c.event_in.ensures)
