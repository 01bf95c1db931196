-- `event`: what is read, played and rewritten is the event on the list.
use mathlib.Core.Path.{◌≡◌, sym, subst, ◌∙◌}
use mathlib.Core.List.{map}
use lib.ListN.{length}
use lib.Seq.{paste}
use Rattle.model.specs.Event as M
use Rattle.model.specs.State.{stored}
use Rattle.model.specs.Run.{KeepsRun}
use Rattle.model.proofs.OfRun.{keeps-run}
use Rattle.list_rows.specs.Rows.{row_of}
use Rattle.list_rows.specs.State.{stored as in_rows}
use Rattle.event_rows.specs.Tested.{tested_with}
use Rattle.engine_parts.specs.Parts.{list_code, read_of}
use Rattle.engine.specs.Lent.{answered}
use Rattle.engine.proofs.Joined.{code-few, read-in, read-few, zero-past, from_in, from-full, joined}
use Rattle.engine.proofs.event.Goals as goal
use Rattle.engine.proofs.event.Goals.{After-to_rows, After-event-r}

-- how many messages are read
read_is : (c : After-to_rows) → c.read_count-n.result ≡ read_of (list_code c.args.count (length c.args.list.now)) c.args.count
read_is c = rw (← c.list_code-code.ensures) c.read_count-n.ensures

-- the rows before the event
rows_are : (c : After-to_rows) → c.to_rows.new.rows ≡ paste c.blank_rows-rows.result 0 (map row_of c.args.list.now) (read_of (list_code c.args.count (length c.args.list.now)) c.args.count)
rows_are c = rw (← read_is c) c.to_rows.ensures

-- what `event_rows::event` is said to answer
said : (c : After-event-r) → M.answer c.event-r.result.code (in_rows c.event-r.result.rig c.event-r.new.tables c.event-r.new.list c.event-r.result.count)
    ≡ tested_with (list_code c.args.count (length c.args.list.now)) (in_rows c.args.rig c.args.tables.now c.to_rows.new.rows c.args.count) c.args.e
said c = rw (← c.list_code-code.ensures) c.event-r.ensures.0

pub to_rows-requires : goal.to_rows-requires
to_rows-requires c =
    rw (c.read_count-n.ensures, c.list_code-code.ensures, c.blank_rows-rows.ensures) (read-in c.args.count c.args.list.now, read-few c.args.count (length c.args.list.now))

pub event-r-requires : goal.event-r-requires
event-r-requires c = (
  (λ h. code-few c.args.count (length c.args.list.now) (sym c.list_code-code.ensures ∙ h)),
  zero-past c.args.count c.args.list.now c.blank_rows-rows.result c.to_rows.new.rows c.blank_rows-rows.ensures (rows_are (goal.at.event-r-requires c).After-to_rows),
)

pub rewrite-requires : goal.rewrite-requires
rewrite-requires c =
    let before = rows_are (goal.at.rewrite-requires c).After-to_rows in
    let told = said (goal.at.rewrite-requires c).After-event-r in
    rw (c.changed_from.ensures, c.first-found.ensures, c.sender.ensures, c.receiver.ensures, c.read_count-n.ensures, c.list_code-code.ensures) (
      from_in c.args.rig c.args.tables.now c.args.list.now c.args.count c.args.e c.event-r.result c.event-r.new.tables c.blank_rows-rows.result c.to_rows.new.rows c.event-r.new.list c.blank_rows-rows.ensures before told,
      from-full c.args.rig c.args.tables.now c.args.list.now c.args.count c.args.e c.event-r.result c.event-r.new.tables c.blank_rows-rows.result c.to_rows.new.rows c.event-r.new.list c.blank_rows-rows.ensures before told c.event-r.array_long2,
    )

pub returns : goal.returns
returns c =
    let before = rows_are (goal.at.returns c).After-to_rows in
    let told = said (goal.at.returns c).After-event-r in
    let e : answered c.event-r.result c.event-r.new.tables c.rewrite.new.list ≡ M.event (stored c.args.rig c.args.tables.now c.args.list.now c.args.count) c.args.e =
    joined c.args.rig c.args.tables.now c.args.list.now c.args.count c.args.e c.event-r.result c.event-r.new.tables c.blank_rows-rows.result c.to_rows.new.rows c.event-r.new.list c.blank_rows-rows.ensures before told c.rewrite.new.list
    (c.rewrite.ensures ∙ rw (c.changed_from.ensures, c.first-found.ensures, c.sender.ensures, c.receiver.ensures, c.read_count-n.ensures, c.list_code-code.ensures)) in
    (e, subst (λ (a : M.Answer). KeepsRun (stored c.args.rig c.args.tables.now c.args.list.now c.args.count) c.args.e a.next) (sym e) (keeps-run (stored c.args.rig c.args.tables.now c.args.list.now c.args.count) c.args.e))
