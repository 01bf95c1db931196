-- `judge`: what is asked of each set, then whether all fit, then which refusal is due.
use Rattle.std.proofs.Common.{rules}
use mathlib.Core.Path.{◌≡◌, sym, ap, ◌∙◌}
use mathlib.Core.Bool.{not}
use Rattle.model.specs.Setup.{each_code}
use Rattle.refusals.specs.Numbers.{number_of, code_in}
use Rattle.refusals.proofs.Refusals.{some_number}
use Rattle.setup_faults.proofs.Rules.{told-site, told-none, each-refused, comparable, told-0, told-3, told-17}
use Rattle.setup_faults.proofs.judge.Goals as goal

pub returns-in_err-judge_each : goal.returns-in_err-judge_each
returns-in_err-judge_each c =
    let e = rw c.in_err-judge_each.was at c.judge_each.ensures in
    let g : code_in c.from_residual.result ≡ number_of c.in_err-judge_each.field-0.0 = search rules in
    g ∙ e ∙ sym (each-refused _ _ (λ z. some_number _ (e ∙ z))).1

pub first_breaking-requires : goal.first_breaking-requires
first_breaking-requires c = comparable _ _ (sym (rw c.in_ok-judge_each.was at c.judge_each.ensures))

pub returns-then-is_none : goal.returns-then-is_none
returns-then-is_none c =
    let z = sym (rw c.in_ok-judge_each.was at c.judge_each.ensures) in
    sym (told-0 _ _ z (told-none c.first_breaking.ensures (c.is_none.ensures ∙ ap not c.if-is_none.true)))

pub first_breaking-apart-requires : goal.first_breaking-apart-requires
first_breaking-apart-requires c = comparable _ _ (sym (rw c.in_ok-judge_each.was at c.judge_each.ensures))

pub returns-then-is_some : goal.returns-then-is_some
returns-then-is_some c =
    let z = sym (rw c.in_ok-judge_each.was at c.judge_each.ensures) in
    sym (told-3 _ _ z (told-site c.first_breaking-apart.ensures (sym c.is_some.ensures ∙ c.if-is_some.true)))

pub returns-else-is_some : goal.returns-else-is_some
returns-else-is_some c =
    let z = sym (rw c.in_ok-judge_each.was at c.judge_each.ensures) in
    let some = told-site c.first_breaking.ensures (c.is_none.ensures ∙ ap not c.if-is_none.false) in
    sym (told-17 _ _ z some (told-none c.first_breaking-apart.ensures (sym c.is_some.ensures ∙ c.if-is_some.false)))
