-- A printed family read by the player.
use borrow.Author.Tests.{eq-eqb}
use Rattle.rig.specs.Limits.{site_limit}
use Rattle.family_rules.specs.Family.{size_of, sets_of}
use Rattle.family_rules.proofs.Accepted.{accepted}
use Rattle.family_votes.specs.Votes.{sets_by_votes}
use Rattle.families.specs.ByVotes.{votes_code}
use Rattle.families.proofs.ByVotes.{votes-kept}
use Rattle.plan_text.specs.Plan.{family_text, votes_text}
use Rattle.plan_read_back.specs.ReadBack.{FamilySetUp, VotesPlayed}
use Rattle.plan_read_back.proofs.Texts.{read_behind, set-up}

pub family-set-up : FamilySetUp
unfolding family_text
family-set-up f h rest = rw h (set-up (size_of f) (sets_of f) (accepted f h) rest)

pub votes-played : VotesPlayed
unfolding votes_text
votes-played n votes c rest =
    rw (eq-eqb (votes_code n votes site_limit) 0 c) (read_behind n (sets_by_votes n votes) (votes-kept n votes site_limit c).meeting rest)
