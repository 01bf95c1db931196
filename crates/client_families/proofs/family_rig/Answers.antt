-- `family_rig`: by the contracts of `generate` and `setup`. That setup accepts the sets is what `generate` says of them.
use Rattle.std.proofs.Common.{rules}
use Rattle.std.specs.Prelude.{Err}
use mathlib.Core.Path.{◌≡◌, sym, ◌∙◌}
use Rattle.client_families.proofs.Made.{made-listed, refused-unlisted}
use Rattle.client_families.proofs.family_rig.Goals as goal

pub returns-in_err-size : goal.returns-in_err-size
returns-in_err-size c =
    let e = c.generate.ensures.determined in
    let g : c.from_residual.result ≡ Err c.in_err-size.field-0.0 = search rules in
    rw g (refused-unlisted c.args.family e.0 c.in_err-size.was, tt)

pub returns : goal.returns
returns c =
    let e = c.generate.ensures in
    let d = e.determined in
    let m = made-listed c.args.family d.0 c.in_ok-size.was d.2 in
    let size = rw c.in_ok-size.was at d.1 in
    let s = c.setup.ensures.determined in
    let accepted = rw c.in_ok-size.was at e.accepted in
    (s.0 ∙ accepted ∙ sym m.0, rw (← m.1, ← size) s.1)
