-- `votes_rig`: by the contracts of `generate_by_votes` and `setup`. That setup answers 0 or 17 is what `generate_by_votes` says of the sets.
use Rattle.std.proofs.Common.{rules}
use Rattle.std.specs.Prelude.{Err}
use mathlib.Core.Path.{◌≡◌, sym, ap, ◌∙◌}
use Rattle.model.specs.Setup.{setup_code}
use Rattle.client_families.proofs.Made.{votes-made, refused-votes}
use Rattle.client_families.proofs.votes_rig.Goals as goal

pub returns-in_err-generate_by_votes-clause-determined : goal.returns-in_err-generate_by_votes-clause-determined
returns-in_err-generate_by_votes-clause-determined c =
    let a = c.args in
    let e = c.generate_by_votes.ensures.determined in
    let g : c.from_residual.result ≡ Err c.in_err-generate_by_votes.field-0.0 = search rules in
    rw g (refused-votes a.n a.votes.now e.0 c.in_err-generate_by_votes.was, tt)

pub returns-clause-determined : goal.returns-clause-determined
returns-clause-determined c =
    let a = c.args in
    let e = c.generate_by_votes.ensures.determined in
    let m = votes-made a.n a.votes.now e.0 c.in_ok-generate_by_votes.was e.1 in
    let s = c.setup.ensures.determined in
    (s.0 ∙ ap (setup_code a.n) m.1 ∙ sym m.0, rw (← m.1) s.1)
