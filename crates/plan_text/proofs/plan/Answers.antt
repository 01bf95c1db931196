-- `plan`: by the case of what is asked.
use mathlib.Core.Path.{refl}
use Rattle.player_printing.proofs.Lines.{printed-part}
use Rattle.plan_text.specs.Plan.{text_for, stream_for}
use Rattle.plan_text.proofs.plan.Goals as goal

pub returns-in-Some-For : goal.returns-in-Some-For
unfolding text_for stream_for
returns-in-Some-For c =
    let e = c.family_lines.ensures in
    rw (← c.asked_by.ensures, c.in-Some-For.is, c.in-Some-For.field-0-is) (refl, e, printed-part e)

pub returns-in-Some-Votes : goal.returns-in-Some-Votes
unfolding text_for stream_for
returns-in-Some-Votes c =
    let e = c.votes_lines.ensures in
    rw (← c.asked_by.ensures, c.in-Some-Votes.is, c.in-Some-Votes.field-0-is) (refl, e, printed-part e)

pub returns-in-None : goal.returns-in-None
unfolding text_for stream_for
returns-in-None c =
    let e = c.usage.ensures in
    rw (← c.asked_by.ensures, c.in-None.is) (refl, e, printed-part e)
