-- `families::generate_by_votes` meets its contract, for every N and all buffers.
use mathlib.Core.Path.{◌≡◌, sym, ◌∙◌}
use borrow.Author.Tests.{eq-eqb, ne_eqb}
use Rattle.refusals.specs.Numbers.{number_of, code_in}
use Rattle.refusals.proofs.Refusals.{some_number}
use Rattle.families.specs.ByVotes.{filled_by_votes}
use Rattle.family_votes.specs.Votes.{takes, VotesFit}
use Rattle.std.proofs.Common.{rules}
use Rattle.families.proofs.ByVotes.{accepted-sets, votes-fit, votes-kept}
use Rattle.families.proofs.generate_by_votes.Goals as goal

pub returns-in_err-judge_votes-clause-determined : goal.returns-in_err-judge_votes-clause-determined
unfolding filled_by_votes
returns-in_err-judge_votes-clause-determined c =
    let e = rw c.in_err-judge_votes.was at c.judge_votes.ensures in
    let g : code_in c.from_residual.result ≡ number_of c.in_err-judge_votes.field-0.0 = search rules in
    (g ∙ e, rw (ne_eqb _ 0 (λ t. some_number _ (e ∙ t))))

pub vote_sum-sum-requires : goal.vote_sum-sum-requires
vote_sum-sum-requires c = votes-fit _ _ _ (sym (rw c.in_ok-judge_votes.was at c.judge_votes.ensures))

pub fill-requires-clause-callable : goal.fill-requires-clause-callable
fill-requires-clause-callable c =
    let h : VotesFit c.args.n c.args.votes.now = votes-fit _ _ _ (sym (rw c.in_ok-judge_votes.was at c.judge_votes.ensures)) in
    search (rules, h)

pub fill-requires-clause-long : goal.fill-requires-clause-long
fill-requires-clause-long c = accepted-sets _ _ _ (sym (rw c.in_ok-judge_votes.was at c.judge_votes.ensures))

pub returns-clause-determined : goal.returns-clause-determined
unfolding filled_by_votes
returns-clause-determined c =
    let z = sym (rw c.in_ok-judge_votes.was at c.judge_votes.ensures) in
    let e = c.fill.ensures (takes c.args.n c.args.votes.now) c.args.n (λ n set m p. search rules) in
    (sym z, e ∙ rw (eq-eqb _ 0 z))

pub returns-clause-kept : goal.returns-clause-kept
returns-clause-kept c =
    let z = sym (rw c.in_ok-judge_votes.was at c.judge_votes.ensures) in
    let e = c.fill.ensures (takes c.args.n c.args.votes.now) c.args.n (λ n set m p. search rules) in
    rw e (votes-kept _ _ _ z)
