-- `move_line`: a number, the first comma, and a number.
use Prim.Native.Nat.{◌+◌}
use mathlib.Core.Path.{◌≡◌, sym, ◌∙◌}
use native.Mathlib.Nat.{zero-add}
use native.Mathlib.Numerals.{add-one}
use lib.ListN.{drop}
use Rattle.player_numbers.specs.Numbers.{number}
use Rattle.player_grammar.specs.Grammar.{before, numbers, move_line}
use Rattle.player_grammar.proofs.Words.{behind}
use Rattle.player_grammar.proofs.Lists.{comma, found-comma, numbers-comma, numbers-last, one_number, move-before, move-malformed, move-single}
use Rattle.player_grammar.proofs.move_line.Goals as goal
use Rattle.player_grammar.proofs.move_line.Goals.{After-read_number}

-- the number before the comma, and those behind it
comma-found : (c : After-read_number) → move_line (numbers c.args.list.now) ≡ move_line (before c.read_number.result (numbers (drop (c.find-end.result + 1) c.args.list.now)))
comma-found c =
    let bs = c.args.list.now in
    let end = c.find-end.result in
    let e : end ≡ comma bs = found-comma bs 0 end c.find-end.ensures.value ∙ zero-add _ in
    rw (c.read_number.ensures, add-one, e, numbers-comma bs (rw e at c.if-end-list.false))

pub returns-then-end-list : goal.returns-then-end-list
returns-then-end-list c =
    let bs = c.args.list.now in
    let end = c.find-end.result in
    let e : end ≡ comma bs = found-comma bs 0 end c.find-end.ensures.value ∙ zero-add _ in
    rw (numbers-last bs (rw e at c.if-end-list.true)) (sym (move-single (number bs)))

pub returns-in_err-a : goal.returns-in_err-a
returns-in_err-a c = c.from_residual.ensures ∙ sym (comma-found (goal.at.returns-in_err-a c).After-read_number ∙ rw c.in_err-a.was (move-malformed _))

pub returns-in_err-b : goal.returns-in_err-b
returns-in_err-b c = c.from_residual-in_err-b.ensures ∙ sym (comma-found (goal.at.returns-in_err-b c).After-read_number ∙ rw c.in_ok-a.was (move-before _ _ ∙ one_number _ _ ∙ rw (← behind _ _, ← c.read_number-2.ensures, c.in_err-b.was)))

pub returns : goal.returns
returns c = sym (comma-found (goal.at.returns c).After-read_number ∙ rw c.in_ok-a.was (move-before _ _ ∙ one_number _ _ ∙ rw (← behind _ _, ← c.read_number-2.ensures, c.in_ok-b.was)))
