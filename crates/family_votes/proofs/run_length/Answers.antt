-- `run_length`: the votes of the first k sites of the run, none of whose beginnings was enough, and the site after them.
use Prim.Native.Nat.{◌≤◌, ◌<◌, ◌+◌, ◌*◌}
use mathlib.Core.Path.{◌≡◌, refl, sym, ◌∙◌}
use native.Mathlib.Nat.{le_antisymm}
use native.Mathlib.Numerals.{add-one}
use native.Mathlib.Omega.{arith}
use Rattle.rig.specs.Limits.{site_limit}
use Rattle.basics.specs.Helpers.{lowest}
use Rattle.basics.proofs.Basics.{lowest-more, lowest-found}
use Rattle.family_votes.specs.Votes.{vote_limit, vote_sum, site_from, taken, run_length}
use Rattle.family_votes.proofs.Runs.{from-range}
use Rattle.family_votes.proofs.Shortest.{more-taken, more-enough, more-wanted}
use Rattle.family_votes.proofs.Sums.{taken-most}
use Rattle.family_votes.proofs.run_length.Goals as goal
use Rattle.family_votes.proofs.run_length.Goals.{After-entry_of-taken}

-- the votes with the site at hand: those of one site more, at most 100 each
taken-on : (c : After-entry_of-taken) →
    let w = c in
    let a = w.args in
    w.loop-k.taken + c.entry_of-taken.result ≡ taken a.size a.votes.now a.n (w.loop-k.k + 1)
taken-on c =
    let w = c in
    let a = w.args in
    rw (w.loop-k.invariant.2, c.entry_of-taken.ensures, w.loop-k.invariant.1) (sym (more-taken a.size a.votes.now a.n w.loop-k.k))

taken-small : (c : After-entry_of-taken) → c.loop-k.taken + c.entry_of-taken.result ≤ site_limit * vote_limit
taken-small c =
    let w = c in
    let p = w.requires in
    let a = w.args in
    let m = taken-most a.size a.votes.now p.0.1 a.n p.2 (w.loop-k.k + 1) (omega arith) in
    omega (arith, taken-on c, p.0.0)

pub loop-k-init : goal.loop-k-init
unfolding site_from taken lowest
loop-k-init c = (omega arith, refl, refl, refl)

pub overflow_add-taken : goal.overflow_add-taken
overflow_add-taken c = omega (arith, taken-small (goal.at.overflow_add-taken c).After-entry_of-taken)

pub overflow_mul-taken : goal.overflow_mul-taken
overflow_mul-taken c = omega (arith, taken-small (goal.at.overflow_mul-taken c).After-entry_of-taken)

pub returns-then-taken-sum : goal.returns-then-taken-sum
unfolding run_length
returns-then-taken-sum c =
    let w = c in
    let a = w.args in
    let h : vote_sum a.votes.now a.size < 2 * taken a.size a.votes.now a.n (w.loop-k.k + 1) =
    omega (arith, c.if-taken-sum.true, taken-on (goal.at.returns-then-taken-sum c).After-entry_of-taken, w.requires.1) in
    add-one w.loop-k.k ∙ sym (lowest-found _ w.loop-k.k a.size w.loop-k.invariant.3 (more-enough a.size a.votes.now a.n w.loop-k.k h) (omega arith))

pub site_after-m-requires : goal.site_after-m-requires
site_after-m-requires c =
    let w = c in
    let a = w.args in
    let p = w.requires in
    (rw w.loop-k.invariant.1 (from-range a.size a.n p.2 w.loop-k.k w.loop-k.invariant.0), p.0.0)

pub loop-k-preserved : goal.loop-k-preserved
unfolding site_from
loop-k-preserved c =
    let w = c in
    let a = w.args in
    let h : 2 * taken a.size a.votes.now a.n (w.loop-k.k + 1) ≤ vote_sum a.votes.now a.size =
    omega (arith, c.if-taken-sum.false, taken-on (goal.at.loop-k-preserved c).After-entry_of-taken, w.requires.1) in (
      omega arith,
      c.site_after-m.ensures ∙ rw (w.loop-k.invariant.1, add-one),
      taken-on (goal.at.loop-k-preserved c).After-entry_of-taken,
      lowest-more _ w.loop-k.k w.loop-k.invariant.3 (more-wanted a.size a.votes.now a.n w.loop-k.k h),
    )

pub returns : goal.returns
unfolding run_length
returns c = sym (rw (le_antisymm c.loop-k.invariant.0 c.loop-k-test.false) at c.loop-k.invariant.3)
