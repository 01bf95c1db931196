-- `entries_value`: the entries at the members passed so far, and 0 behind them.
use Prim.Native.Nat.{suc, ◌≤◌, ◌<◌}
use mathlib.Core.Path.{◌≡◌, refl}
use native.Mathlib.Omega.{arith}
use lib.ListN.{length}
use Rattle.rig.specs.Limits.{site_limit}
use Rattle.model.specs.Sets.{member}
use Rattle.model.specs.Tables.{at}
use Rattle.rig_members.specs.Walk.{word_bits, within}
use Rattle.rig_members.proofs.Walk.{passed_to, turn, turn-again, walk_begins, walk_first, walk-next, walk-last}
use Rattle.save_entries.specs.Entries.{entries_up_to, entries}
use Rattle.save_entries.proofs.Rows.{entries-within}
use Rattle.save_entries.proofs.Values.{line-more, entries-idle, entries-more}
use Rattle.save_entries.proofs.entries_value.Goals as goal

pub loop-j-init : goal.loop-j-init
unfolding entries_up_to
loop-j-init c =
    let set = c.args.set in
    let row = c.args.row.now in
    let word : site_limit ≤ word_bits = omega arith in
    let starts : c.into_iter-j-iterator.result.left ≡ within site_limit set = cc in
    rw (walk_first (entries_up_to (member set) row) site_limit set (λ i h e. entries-idle (member set) row i e) word starts)
    (tt, tt, walk_begins site_limit set word starts, (refl, refl))

pub overflow_sub-numbers : goal.overflow_sub-numbers
overflow_sub-numbers c =
    let t = c.in-Some.ensures.steps in
    let u = turn c.loop-j.invariant.2 t.0 t.1 in
    omega (arith, u.next)

pub offset_bounds-row-j : goal.offset_bounds-row-j
offset_bounds-row-j c =
    let t = c.in-Some.ensures.steps in
    let u = turn c.loop-j.invariant.2 t.0 t.1 in
    record { fits = omega (arith, u.next, u.high) }

pub bounds-row-j : goal.bounds-row-j
bounds-row-j c =
    let t = c.in-Some.ensures.steps in
    let u = turn c.loop-j.invariant.2 t.0 t.1 in
    omega (arith, u.next, u.high)

pub offset_bounds-numbers-count : goal.offset_bounds-numbers-count
offset_bounds-numbers-count c =
    let a = c.args in
    let t = c.in-Some.ensures.steps in
    let u = turn c.loop-j.invariant.2 t.0 t.1 in
    record { fits = omega (arith, entries-within (member a.set) a.row.now (passed_to site_limit c.loop-j.j-iterator.left), u.next, u.high, c.loop-j.invariant.3.1) }

pub bounds-numbers-count : goal.bounds-numbers-count
bounds-numbers-count c =
    let a = c.args in
    let t = c.in-Some.ensures.steps in
    let u = turn c.loop-j.invariant.2 t.0 t.1 in
    omega (arith, entries-within (member a.set) a.row.now (passed_to site_limit c.loop-j.j-iterator.left), u.next, u.high, c.loop-j.invariant.3.1)

pub overflow_add-count : goal.overflow_add-count
overflow_add-count c =
    let a = c.args in
    let t = c.in-Some.ensures.steps in
    let u = turn c.loop-j.invariant.2 t.0 t.1 in
    record { fits = omega (arith, entries-within (member a.set) a.row.now (passed_to site_limit c.loop-j.j-iterator.left), u.next, u.high, c.loop-j.invariant.3.1) }

pub loop-j-preserved : goal.loop-j-preserved
unfolding at
loop-j-preserved c =
    let l = c.loop-j in
    let set = c.args.set in
    let row = c.args.row.now in
    let t = c.in-Some.ensures.steps in
    let u = turn c.loop-j.invariant.2 t.0 t.1 in
    let i = passed_to site_limit l.j-iterator.left in
    let few : length (entries_up_to (member set) row i) < site_limit = omega (arith, entries-within (member set) row i, u.next, u.high) in
    rw (walk-next (entries_up_to (member set) row) site_limit set (λ i h e. entries-idle (member set) row i e) u t.2, entries-more (member set) row i (rw u.next at u.visits))
    (tt, tt, turn-again u t.2, line-more (entries_up_to (member set) row i) (at 0 row (suc i)) few l.invariant.3 (rw u.index))

pub returns : goal.returns
unfolding entries
returns c =
    let l = c.loop-j in
    let set = c.args.set in
    let row = c.args.row.now in
    let all = walk-last (entries_up_to (member set) row) site_limit set (λ i h e. entries-idle (member set) row i e) c.in-None.ensures.steps.0 in
    rw (l.invariant.3.0, l.invariant.3.1, all)
