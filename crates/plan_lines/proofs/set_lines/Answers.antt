-- `set_lines`: the lines of the sets so far.
use mathlib.Core.Path.{refl}
use borrow.Author.Rules.{rules}
use native.Mathlib.Numerals.{add-one}
use native.Mathlib.Omega.{arith}
use Rattle.std.proofs.lemmas.List.{get_or-take, length-take-le}
use Rattle.plan_lines.specs.Lines.{set_texts}
use Rattle.plan_lines.proofs.Lines.{set-texts-short, wrote-set}
use Rattle.plan_lines.proofs.set_lines.Goals as goal

pub loop-set-init : goal.loop-set-init
unfolding set_texts
loop-set-init c = (refl, record { behind = search rules; stored = refl })

pub set_line-next-requires : goal.set_line-next-requires
set_line-next-requires c =
    let l = c.loop-set in
    let sets = c.args.sets.now in
    omega (arith, length-take-le c.args.n sets c.requires.1, set-texts-short sets l.set-index, l.invariant.1.behind)

pub loop-set-preserved : goal.loop-set-preserved
loop-set-preserved c =
    let l = c.loop-set in
    let sets = c.args.sets.now in
    let e = get_or-take c.args.n sets l.set-index 0 (omega (arith, length-take-le c.args.n sets c.requires.1)) in
    (search rules, rw (add-one l.set-index) (wrote-set sets l.set-index l.invariant.1 (rw e at c.set_line-next.ensures)))
