-- `votes_lines`: the lines of what `generate_by_votes` answers; that N is in range is among what it says of the sets.
use Rattle.model.proofs.Setup.{meeting}
use Rattle.plan_text.proofs.Made.{votes-text, refused-votes}
use Rattle.plan_text.proofs.votes_lines.Goals as goal

pub setup_lines-requires : goal.setup_lines-requires
setup_lines-requires c =
    let e = c.generate_by_votes.ensures in
    (meeting _ _ (rw c.in-Ok.is at e.kept).meeting).high

pub returns-in-Ok : goal.returns-in-Ok
returns-in-Ok c =
    let a = c.args.given in
    let e = c.generate_by_votes.ensures.determined in
    rw (← votes-text a.count a.numbers e.0 c.in-Ok.is e.1) c.setup_lines.ensures

pub returns-in-Err : goal.returns-in-Err
returns-in-Err c =
    let a = c.args.given in
    let e = c.generate_by_votes.ensures.determined in
    rw (← refused-votes a.count a.numbers e.0 c.in-Err.is, ← c.number.ensures) c.code_line.ensures
