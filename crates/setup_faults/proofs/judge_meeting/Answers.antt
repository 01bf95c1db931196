-- `judge_meeting`: what is asked of each set, then whether they meet.
use Rattle.std.proofs.Common.{rules}
use mathlib.Core.Path.{◌≡◌, sym, ◌∙◌}
use borrow.Author.Tests.{eq-eqb, ne_eqb}
use Rattle.refusals.specs.Numbers.{number_of, code_in}
use Rattle.refusals.proofs.Refusals.{some_number}
use Rattle.setup_faults.proofs.Rules.{told-site, told-none, all_meet_lem, each-refused, comparable, each-meeting}
use Rattle.setup_faults.proofs.judge_meeting.Goals as goal

pub returns-in_err-judge_each : goal.returns-in_err-judge_each
returns-in_err-judge_each c =
    let e = rw c.in_err-judge_each.was at c.judge_each.ensures in
    let g : code_in c.from_residual.result ≡ number_of c.in_err-judge_each.field-0.0 = search rules in
    g ∙ e ∙ sym (each-refused _ _ (λ z. some_number _ (e ∙ z))).0

pub first_breaking-requires : goal.first_breaking-requires
first_breaking-requires c = comparable _ _ (sym (rw c.in_ok-judge_each.was at c.judge_each.ensures))

pub returns-then-is_some : goal.returns-then-is_some
returns-then-is_some c =
    let z = sym (rw c.in_ok-judge_each.was at c.judge_each.ensures) in
    let told = told-site c.first_breaking.ensures (sym c.is_some.ensures ∙ c.if-is_some.true) in
    rw (each-meeting _ _ z, all_meet_lem _ _ ∙ ne_eqb _ 0 told)

pub returns : goal.returns
returns c =
    let z = sym (rw c.in_ok-judge_each.was at c.judge_each.ensures) in
    let none = told-none c.first_breaking.ensures (sym c.is_some.ensures ∙ c.if-is_some.false) in
    rw (each-meeting _ _ z, all_meet_lem _ _ ∙ eq-eqb _ 0 none)
