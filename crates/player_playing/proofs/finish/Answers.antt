-- `finish`: the player's end, with the line that is held.
use Prim.Native.Nat.{ℕ, min}
use mathlib.Core.Path.{◌≡◌, sym, ap, ◌∙◌}
use mathlib.Core.List.{List}
use native.Mathlib.Omega.{arith}
use native.Mathlib.Nat.{le_of_lt, min-eq_left, min-eq_right}
use borrow.Author.Tests.{ltb-true, ltb-false}
use lib.Dec.{ltb}
use lib.ListN.{length, take}
use lib.Seq.{length-take-le, take_all}
use Rattle.basics.proofs.Basics.{by_bool}
use Rattle.list_rows.specs.State.{stored}
use Rattle.player_state.specs.declared.Playing.{Playing}
use Rattle.player_state.specs.State.{line_room, cut_line}
use Rattle.player_playing.proofs.finish.Goals as goal
use Rattle.player_playing.proofs.finish.Goals.{After-at_most_room-held}

-- all the bytes that there is room for are all the bytes of the line
kept : (s : Playing) → length s.line ≡ line_room → take (min s.held line_room) s.line ≡ cut_line s
kept s e =
    by_bool (ltb s.held line_room)
    (λ t. rw (min-eq_left (le_of_lt (ltb-true _ _ t))))
    (λ t. let h = ltb-false s.held line_room t in rw (min-eq_right h, take_all line_room s.line (omega arith), take_all s.held s.line (omega arith)))

-- the bytes that are lent to the player's end
cut : (c : After-at_most_room-held) → take c.at_most_room-held.result c.line_of-line.result ≡ cut_line c.args.s
cut c =
    let long = sym (ap (λ (xs : List ℕ). length xs) c.line_of-line.ensures) ∙ c.line_of-line.type_inv.1.0.1 in
    rw (c.at_most_room-held.ensures ∙ ap (λ (n : ℕ). min n line_room) c.held_of.ensures, c.line_of-line.ensures) (kept c.args.s long)

pub slice_bounds-line-end : goal.slice_bounds-line-end
slice_bounds-line-end c = omega (arith, c.at_most_room-held.ensures, c.line_of-line.type_inv.1.0.1)

pub slice_bounds-finish-end : goal.slice_bounds-finish-end
slice_bounds-finish-end c = sym (length-take-le _ c.line_of-line.result (omega (arith, c.at_most_room-held.ensures, c.line_of-line.type_inv.1.0.1)))

pub returns : goal.returns
returns c =
    let s = c.args.s in
    rw (cut (goal.at.returns c).After-at_most_room-held, c.player_of.ensures) at (c.finish.ensures (stored s.player.rig s.tables s.list s.player.count))
