-- `read_part`: what is read so far, as a part.
use mathlib.Core.Path.{refl, sym, ◌∙◌}
use mathlib.Core.List.{[]}
use borrow.Author.Rules.{rules}
use borrow.Author.Tests.{not-true, not-false}
use native.Mathlib.Omega.{arith}
use lib.ListN.{take, length-drop}
use lib.Seq.{length-take-le}
use Rattle.player_printing.proofs.Lines.{printed-part}
use Rattle.player_text.specs.Calls.{text}
use Rattle.player_reading.specs.Reading.{ReadTo}
use Rattle.player_reading.proofs.Turns.{begins, played, kept, later, goes_on}
use Rattle.player_reading.proofs.read_part.Goals as goal
use Rattle.player_reading.proofs.read_part.Goals.{After-put_word-at}

-- the line is judged, and printed
turn : (c : After-put_word-at) →
    ReadTo (text c.args.p c.args.tables.now c.args.list.now) (take c.args.held c.args.cut) c.args.given.now c.args.out.now c.join_line-j.result.from
    (text c.line-said.result.player c.line-said.new.tables c.line-said.new.list) [] c.put_word-at.result c.put_word-at.new.page
turn c =
    let i = c.loop-from.invariant in
    let t = c.join_line-j.ensures in
    let x = c.line-said.ensures.0 in
    let p = x.printed in
    let w = c.put_word-at.ensures in
    played i.4 t.line t.taken (sym t.whole ∙ not-false _ c.if-not-j.false) x.known p.text w (omega (arith, (printed-part p).0, (printed-part p).1, p.long, i.3, i.4.room, c.if-out-at-lt-PAGE_LENGTH.false, w.behind))

pub loop-from-init : goal.loop-from-init
loop-from-init c = let p = c.requires in (p.0, p.1, search rules, refl, begins)

pub overflow_sub-out : goal.overflow_sub-out
overflow_sub-out c = c.loop-from.invariant.4.room

pub join_line-j-requires : goal.join_line-j-requires
join_line-j-requires c = let i = c.loop-from.invariant in (i.1, i.4.within)

pub slice_bounds-line_bytes-end : goal.slice_bounds-line_bytes-end
slice_bounds-line_bytes-end c = let j = c.join_line-j.ensures in omega (arith, j.long, j.room)

pub slice_bounds-line-end : goal.slice_bounds-line-end
slice_bounds-line-end c = let j = c.join_line-j.ensures in sym (length-take-le _ _ (omega (arith, j.long, j.room)))

pub line-said-requires : goal.line-said-requires
line-said-requires c = c.loop-from.invariant.0

pub slice_bounds-page-end : goal.slice_bounds-page-end
slice_bounds-page-end c = (printed-part c.line-said.ensures.0.printed).0

pub slice_bounds-put_word-end : goal.slice_bounds-put_word-end
slice_bounds-put_word-end c = (printed-part c.line-said.ensures.0.printed).1

pub put_word-at-requires : goal.put_word-at-requires
put_word-at-requires c =
    let i = c.loop-from.invariant in
    let x = c.line-said.ensures.0.printed in
    omega (arith, (printed-part x).0, (printed-part x).1, x.long, i.3, i.4.room, c.if-out-at-lt-PAGE_LENGTH.false)

pub play_on-r-requires : goal.play_on-r-requires
play_on-r-requires c = let t = turn (goal.at.play_on-r-requires c).After-put_word-at in (c.line-said.ensures.1, t.within, t.room)

pub loop-from-smaller : goal.loop-from-smaller
loop-from-smaller c =
    let i = c.loop-from.invariant in
    let t = c.join_line-j.ensures in
    let g = c.play_on-r.ensures.0 in
    let some = later i.4 t.line t.taken (simp length-drop (omega (arith, c.loop-from-test.true))) in
    omega (arith, some, g.low, g.high, c.loop-from-test.true)

pub loop-from-preserved : goal.loop-from-preserved
loop-from-preserved c =
    let x = c.line-said.ensures.0.printed in
    let i = c.loop-from.invariant in
    let g = c.play_on-r.ensures in
    (g.1, omega arith, c.join_line-j.ensures.long, x.long ∙ i.3, goes_on (turn (goal.at.loop-from-preserved c).After-put_word-at) _ g.0)

pub returns-after-loop-from : goal.returns-after-loop-from
returns-after-loop-from c = let i = c.loop-from.invariant in (i.4, i.0, i.1, λ h. omega (arith, i.4.long, i.4.room))

pub returns-then-out-at-lt-PAGE_LENGTH : goal.returns-then-out-at-lt-PAGE_LENGTH
returns-then-out-at-lt-PAGE_LENGTH c = let i = c.loop-from.invariant in (i.4, i.0, i.1, λ h. omega (arith, i.4.long, i.4.room))

pub returns-then-not-j : goal.returns-then-not-j
returns-then-not-j c =
    let i = c.loop-from.invariant in
    let t = c.join_line-j.ensures in
    let w = not-true _ c.if-not-j.true in
    let k = kept i.4 t.line t.taken (sym t.whole ∙ w) in
    (k.0, i.0, t.short w, λ h. omega (arith, h, k.1))
