-- `line`: what the line does at its stage.
use mathlib.Core.Path.{refl}
use Rattle.player_text.specs.Calls.{text}
use Rattle.player_text.proofs.Heads.{nothing}
use Rattle.player_text.proofs.Stages.{line-size, line_set, line-event, line-over}
use Rattle.player_lines.proofs.line.Goals as goal

pub returns-in-Size : goal.returns-in-Size
returns-in-Size c =
    let a = c.args in
    let p = c.requires in
    let t = text a.p a.tables.now a.list.now in
    rw (line-size t a.bytes.now c.in-Size.is, ← c.meaning-m.ensures) (c.on_size.ensures a.tables.now a.list.now (rw c.in-Size.is at p.fits))

pub returns-in-Sets : goal.returns-in-Sets
returns-in-Sets c =
    let a = c.args in
    let p = c.requires in
    let t = text a.p a.tables.now a.list.now in
    rw (line_set t a.bytes.now c.in-Sets.is, ← c.meaning-m.ensures) (c.on_set.ensures a.tables.now a.list.now (rw c.in-Sets.is at p.fits))

pub returns-in-Events : goal.returns-in-Events
returns-in-Events c =
    let a = c.args in
    let t = text a.p a.tables.now a.list.now in
    rw (line-event t a.bytes.now c.in-Events.is, ← c.meaning-m.ensures) c.on_event.ensures

pub returns-in-Over : goal.returns-in-Over
returns-in-Over c =
    let a = c.args in
    let t = text a.p a.tables.now a.list.now in
    (rw (line-over t a.bytes.now c.in-Over.is) (record { known = refl; printed = nothing }), c.requires)
