-- `family_lines`: the lines of what `generate` answers; that their number is in range is what setup's acceptance says.
use Rattle.model.proofs.Setup.{accepts}
use Rattle.plan_text.proofs.Made.{made-text, refused-text}
use Rattle.plan_text.proofs.family_lines.Goals as goal

pub setup_lines-requires : goal.setup_lines-requires
setup_lines-requires c =
    let e = c.generate.ensures in
    (accepts _ _ (rw c.in-Ok.is at e.accepted)).high

pub returns-in-Ok : goal.returns-in-Ok
returns-in-Ok c =
    let e = c.generate.ensures.determined in
    rw (← made-text c.args.family e.0 c.in-Ok.is (rw c.in-Ok.is at e.1) e.2) c.setup_lines.ensures

pub returns-in-Err : goal.returns-in-Err
returns-in-Err c =
    let e = c.generate.ensures.determined in
    rw (← refused-text c.args.family e.0 c.in-Err.is, ← c.number.ensures) c.code_line.ensures
