-- `setup_lines`: the line `sites=`, then the lines of the sets.
use native.Mathlib.Omega.{arith}
use Rattle.player_bytes.specs.Wrote.{Wrote}
use Rattle.player_bytes.proofs.Stores.{wrote-more}
use Rattle.player_printing.proofs.Lines.{wrote-line}
use Rattle.plan_lines.specs.Lines.{sites_text, setup_text}
use Rattle.plan_lines.proofs.Lines.{set-texts-short}
use Rattle.plan_lines.proofs.setup_lines.Goals as goal

pub returns : goal.returns
unfolding setup_text sites_text
returns c =
    let a = c.args in
    let w : Wrote (setup_text a.n a.sets.now) 0 a.page.now _ c.set_lines.result =
    wrote-more c.field_line-next.ensures.wrote c.set_lines.ensures in
    wrote-line w (omega (arith, c.set_lines.ensures.behind, set-texts-short a.sets.now a.n))
