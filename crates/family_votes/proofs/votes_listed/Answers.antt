-- `votes_listed`: all votes are 0 exactly where their sum is.
use mathlib.Core.Path.{sym, ◌∙◌}
use Rattle.family_votes.specs.Votes.{votes_listed}
use Rattle.family_votes.proofs.Listed.{zero-sum}
use Rattle.family_votes.proofs.votes_listed.Goals as goal

pub vote_sum-requires : goal.vote_sum-requires
vote_sum-requires c = (c.requires, sym c.none_above.ensures ∙ c.if-none_above.true)

pub returns-then-none_above : goal.returns-then-none_above
unfolding votes_listed
returns-then-none_above c = rw (sym c.none_above.ensures ∙ c.if-none_above.true, zero-sum, c.vote_sum.ensures)

pub returns-else-none_above : goal.returns-else-none_above
unfolding votes_listed
returns-else-none_above c = rw (c.if-none_above.false, sym c.none_above.ensures ∙ c.if-none_above.false)
