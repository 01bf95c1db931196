-- `play_text`: one part, and the end of the input where it is reached.
use native.Mathlib.Omega.{arith}
use Prim.Native.Nat.{◌-◌, ◌≤◌}
use lib.ListN.{length}
use Rattle.player_printing.specs.Printing.{page_length}
use mathlib.Core.Logic.{inl, inr}
use Rattle.player_printing.proofs.Lines.{printed-part}
use Rattle.player_text.proofs.Start.{begins-at-start}
use Rattle.client_player.proofs.Texts.{tells-over, tells-short, tells-end}
use Rattle.client_player.proofs.play_text.Goals as goal
use Rattle.client_player.proofs.play_text.Goals.{then-taken-text-via-then-taken-text, then-taken-text-via-else-taken-text+then-out-at-lt-PAGE_LENGTH}

pub returns-then-over : goal.returns-then-over
returns-then-over c =
    let e = c.part-r.ensures in
    let f = c.begin.ensures.value in
    tells-over (rw (f, begins-at-start) at e.leaves_played.0) (rw (f, begins-at-start) at e.continues) c.is_over-over.ensures c.if-over.true

pub returns-then-taken-text : goal.returns-then-taken-text
returns-then-taken-text c =
    let e = c.part-r.ensures in
    let f = c.begin.ensures.value in
    tells-short (rw (f, begins-at-start) at e.leaves_played.0) (rw (f, begins-at-start) at e.continues) c.is_over-over.ensures e.leaves_played.2
    (elim c.then-taken-text.branch [
      | then-taken-text-via-then-taken-text w ↦ inl w.if-taken-text.true
      | then-taken-text-via-else-taken-text+then-out-at-lt-PAGE_LENGTH w ↦ inr w.if-out-at-lt-PAGE_LENGTH.true
    ])

pub slice_bounds-page-end : goal.slice_bounds-page-end
slice_bounds-page-end c = (printed-part c.finish-n.ensures).0

pub slice_bounds-put_word-end : goal.slice_bounds-put_word-end
slice_bounds-put_word-end c = (printed-part c.finish-n.ensures).1

pub put_word-end-requires : goal.put_word-end-requires
put_word-end-requires c =
    let room = c.part-r.ensures.leaves_played.0.room in
    let r = c.part-r in
    let enough : page_length ≤ length r.new.out - r.result.written = c.if-out-at-lt-PAGE_LENGTH.false in
    let few = printed-part c.finish-n.ensures in
    let page = c.finish-n.ensures.long in
    omega arith

pub returns : goal.returns
returns c =
    let e = c.part-r.ensures in
    let f = c.begin.ensures.value in
    let room = e.leaves_played.0.room in
    let p = c.finish-n.ensures in
    let page = p.long in
    let few = printed-part p in
    let r = c.part-r in
    let enough : page_length ≤ length r.new.out - r.result.written = c.if-out-at-lt-PAGE_LENGTH.false in
    let all = c.if-taken-text.false in
    tells-end (rw (f, begins-at-start) at e.leaves_played.0) (rw (f, begins-at-start) at e.continues) c.is_over-over.ensures (λ h. omega arith) (omega arith) (omega arith) p c.put_word-end.ensures
