-- `run_set`: the set of the first k sites of the run, and the site after them.
use mathlib.Core.Path.{refl, sym, ◌∙◌}
use native.Mathlib.Nat.{le_antisymm}
use native.Mathlib.Numerals.{add-one}
use native.Mathlib.Omega.{arith}
use lib.Pow.{pow_mono}
use Rattle.rig.specs.Limits.{site_limit}
use Rattle.family_sets.proofs.Bounds.{set_below}
use Rattle.family_votes.specs.Votes.{site_from, in_run}
use Rattle.family_votes.proofs.Runs.{from-range, run-begun, run_more}
use Rattle.family_votes.proofs.run_set.Goals as goal

pub loop-k-init : goal.loop-k-init
unfolding site_from
loop-k-init c = (omega arith, refl, sym (run-begun _ _ c.requires.1))

pub with_new_site-set-requires : goal.with_new_site-set-requires
with_new_site-set-requires c =
    let w = c in
    let p = w.requires in
    let a = w.args in
    let r = from-range a.size a.n p.1 w.loop-k.k (omega arith) in
    let b = set_below (in_run a.size w.loop-k.k a.n) a.size in
    (rw w.loop-k.invariant.1 (omega arith, omega arith), omega (arith, pow_mono {j = site_limit} p.0, w.loop-k.invariant.2))

pub site_after-m-requires : goal.site_after-m-requires
site_after-m-requires c =
    let w = c in
    let p = w.requires in
    let a = w.args in
    let r = from-range a.size a.n p.1 w.loop-k.k (omega arith) in
    (rw w.loop-k.invariant.1 r, p.0)

pub loop-k-preserved : goal.loop-k-preserved
unfolding site_from
loop-k-preserved c =
    let w = c in
    let p = w.requires in
    let a = w.args in
    let m = run_more a.size a.n p.1 w.loop-k.k (omega arith) in
    (omega arith, c.site_after-m.ensures ∙ rw (w.loop-k.invariant.1, add-one), c.with_new_site-set.ensures ∙ rw (w.loop-k.invariant.1, w.loop-k.invariant.2, add-one) (sym m))

pub returns : goal.returns
returns c = c.loop-k.invariant.2 ∙ rw (le_antisymm c.loop-k.invariant.0 c.loop-k-test.false)
