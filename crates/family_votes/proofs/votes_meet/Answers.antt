use mathlib.Core.Path.{refl}
use Rattle.family_votes.proofs.Meeting.{votes-meet}
use Rattle.family_votes.proofs.votes_meet.Goals as goal

pub returns : goal.returns
returns c = (refl, votes-meet)
