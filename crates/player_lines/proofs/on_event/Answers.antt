-- `on_event`: an event, or 11.
use Rattle.player_text.specs.Player.{event_in, on_event}
use Rattle.player_text.specs.Calls.{text}
use Rattle.player_text.proofs.Heads.{stops}
use Rattle.player_lines.proofs.on_event.Goals as goal

pub returns-in_default : goal.returns-in_default
unfolding on_event
returns-in_default c =
    let a = c.args in
    stops a.p a.tables.now a.list.now c.stop.result 11 c.one_more.result c.stop.ensures (on_event (text a.p a.tables.now a.list.now) (event_in a.m)) (rw (← c.event_in.ensures, c.in_default.is, c.one_more.ensures))
