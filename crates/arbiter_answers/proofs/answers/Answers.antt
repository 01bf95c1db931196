-- `answers`: one fail, or up to three messages in the order of the definition.
use mathlib.Core.Path.{sym, ◌∙◌}
use native.Mathlib.Omega.{arith}
use borrow.Author.Tests.{eq-eqb, ne_eqb}
use Rattle.model.specs.Arbiter.{head_of, answers}
use Rattle.event_effects.proofs.Effects.{sent-one, sent-more}
use Rattle.arbiter_answers.proofs.Former.{fail-former-most}
use Rattle.arbiter_answers.proofs.answers.Goals as goal

pub returns-then-head-k : goal.returns-then-head-k
unfolding answers head_of
returns-then-head-k c = rw (ne_eqb _ _ (rw c.head.ensures at c.if-head-k.true)) (sent-one c.fail_to.ensures c.append.ensures)

pub append_two-requires : goal.append_two-requires
append_two-requires c =
    let a = c.args in
    let most = fail-former-most a.d a.k a.former in
    omega arith

pub returns : goal.returns
unfolding answers head_of
returns c =
    let two = rw (c.transfer_of-named.ensures, c.inquire_or_fail-last.ensures) at c.append_two.ensures in
    rw (eq-eqb _ _ (sym c.head.ensures ∙ c.if-head-k.false)) (sent-more c.fail_former-failed.ensures two)
