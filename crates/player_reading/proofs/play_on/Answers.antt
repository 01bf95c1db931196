-- `play_on`: among the events without tests, or not.
use Rattle.player_reading.proofs.Turns.{stays}
use Rattle.player_reading.proofs.play_on.Goals as goal

pub play_events-requires : goal.play_events-requires
play_events-requires c =
    let p = c.requires in
    (p.0, c.in-Events.is, c.if-p.false, p.1, p.2)

pub returns-then-p : goal.returns-then-p
returns-then-p c =
    let a = c.args in
    let p = c.requires in
    (stays a.p a.tables.now a.list.now a.given.now a.out.now a.from a.at p.1 p.2, p.0)

pub returns-else-p : goal.returns-else-p
returns-else-p c = let s = c.play_events.ensures in (record { plays = s.plays; low = s.low; high = s.high; room = s.room }, s.fits)

pub returns-in_default : goal.returns-in_default
returns-in_default c =
    let a = c.args in
    let p = c.requires in
    (stays a.p a.tables.now a.list.now a.given.now a.out.now a.from a.at p.1 p.2, p.0)
