-- A walk that an iterator has run to its end had a turn for each member that was left.
use Prim.Native.Nat.{ℕ, suc}
use mathlib.Core.List.{List, [], ◌∷◌}
use mathlib.Core.Path.{◌≡◌, sym, ap, ◌∙◌}
use lib.ListN.{length}
use Rattle.std.specs.Iterator.{Drains}
use Rattle.basics.proofs.Basics.{count_none}
use Rattle.model.specs.Sets.{member}
use Rattle.rig_members.specs.Walk.{word_bits, members_in, VisitsLowest}
use Rattle.rig_members.proofs.Members.{member-zero}
use Rattle.rig_members.proofs.Walk.{Walk, turn, turn-again}

pub walk-turns : {S : Type 0} (left : S → ℕ) {set : ℕ} (s : S) (xs : List ℕ) → Walk word_bits set (left s) → Drains (VisitsLowest left) s xs → length xs ≡ members_in (left s)
walk-turns left s [] w d = let e : left s ≡ 0 = ap left d.1.1 ∙ d.1.2.0 in rw e (sym (count_none (member 0) word_bits member-zero))
walk-turns left s (x ∷ xs) w d =
    let y = d.1.1 in
    let u = turn w y.1.0 y.1.1 in
    let on = walk-turns left y.0 xs (turn-again u y.1.2) (d.0, (d.1.0, y.2, d.1.2)) in
    ap suc (on ∙ ap members_in y.1.2) ∙ u.fewer
