-- `row_from`: the row as far as the members passed so far, and 0 behind it.
use Prim.Native.Nat.{◌+◌, ◌≤◌}
use mathlib.Core.List.{append-nil}
use mathlib.Core.Path.{◌≡◌, refl, sym, ap, ◌∙◌}
use native.Mathlib.Numerals.{add-one}
use native.Mathlib.Omega.{arith}
use Rattle.basics.specs.Helpers.{count}
use Rattle.rig.specs.Limits.{site_limit}
use Rattle.model.specs.Sets.{member}
use Rattle.rig_members.specs.Walk.{word_bits, within}
use Rattle.rig_members.proofs.Walk.{passed_to, turn, turn-again, walk_begins, walk_first, walk-next, walk-last}
use Rattle.save_entries.specs.Entries.{row_up_to, row_from}
use Rattle.save_entries.proofs.Rows.{passed-within}
use Rattle.save_entries.proofs.Values.{row_so_far, row-idle, row_more, count-idle, count-more}
use Rattle.save_entries.proofs.row_from.Goals as goal

pub loop-j-init : goal.loop-j-init
unfolding row_so_far row_up_to count
loop-j-init c =
    let set = c.args.set in
    let ns = c.args.ns.now in
    let word : site_limit ≤ word_bits = omega arith in
    let starts : c.into_iter-j-iterator.result.left ≡ within site_limit set = cc in
    rw (walk_first (row_so_far (member set) ns) site_limit set (row-idle (member set) ns) word starts, walk_first (count (member set)) site_limit set (λ i h e. count-idle (member set) i e) word starts)
    (tt, tt, walk_begins site_limit set word starts, refl, refl)

pub offset_bounds-ns-next : goal.offset_bounds-ns-next
offset_bounds-ns-next c =
    let t = c.in-Some.ensures.steps in
    let u = turn c.loop-j.invariant.2 t.0 t.1 in
    record { fits = omega (arith, passed-within (member c.args.set) (passed_to site_limit c.loop-j.j-iterator.left), u.next, u.high, c.loop-j.invariant.4) }

pub bounds-ns-next : goal.bounds-ns-next
bounds-ns-next c =
    let t = c.in-Some.ensures.steps in
    let u = turn c.loop-j.invariant.2 t.0 t.1 in
    omega (arith, passed-within (member c.args.set) (passed_to site_limit c.loop-j.j-iterator.left), u.next, u.high, c.loop-j.invariant.4)

pub overflow_sub-row : goal.overflow_sub-row
overflow_sub-row c =
    let t = c.in-Some.ensures.steps in
    let u = turn c.loop-j.invariant.2 t.0 t.1 in
    omega (arith, u.next)

pub offset_bounds-row-j : goal.offset_bounds-row-j
offset_bounds-row-j c =
    let t = c.in-Some.ensures.steps in
    let u = turn c.loop-j.invariant.2 t.0 t.1 in
    record { fits = omega (arith, u.next, u.high) }

pub bounds-row-j : goal.bounds-row-j
bounds-row-j c =
    let t = c.in-Some.ensures.steps in
    let u = turn c.loop-j.invariant.2 t.0 t.1 in
    omega (arith, u.next, u.high)

pub overflow_add-next : goal.overflow_add-next
overflow_add-next c =
    let t = c.in-Some.ensures.steps in
    let u = turn c.loop-j.invariant.2 t.0 t.1 in
    record { fits = omega (arith, passed-within (member c.args.set) (passed_to site_limit c.loop-j.j-iterator.left), u.next, u.high, c.loop-j.invariant.4) }

pub loop-j-preserved : goal.loop-j-preserved
loop-j-preserved c =
    let l = c.loop-j in
    let set = c.args.set in
    let ns = c.args.ns.now in
    let t = c.in-Some.ensures.steps in
    let u = turn c.loop-j.invariant.2 t.0 t.1 in
    let i = passed_to site_limit l.j-iterator.left in
    let here = rw u.next at u.visits in
    rw (walk-next (row_so_far (member set) ns) site_limit set (row-idle (member set) ns) u t.2, walk-next (count (member set)) site_limit set (λ i h e. count-idle (member set) i e) u t.2)
    (tt, tt, turn-again u t.2, rw (u.index, l.invariant.3, l.invariant.4) (row_more (member set) ns i (omega (arith, u.next, u.high)) here), ap (λ n. n + 1) l.invariant.4 ∙ add-one _ ∙ sym (count-more (member set) i here))

pub returns : goal.returns
unfolding row_from row_so_far
returns c =
    let set = c.args.set in
    let ns = c.args.ns.now in
    let all = walk-last (row_so_far (member set) ns) site_limit set (row-idle (member set) ns) c.in-None.ensures.steps.0 in
    c.loop-j.invariant.3 ∙ all ∙ append-nil _
