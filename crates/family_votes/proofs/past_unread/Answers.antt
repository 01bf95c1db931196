use mathlib.Core.Path.{refl}
use Rattle.family_votes.proofs.Unread.{past-unread}
use Rattle.family_votes.proofs.past_unread.Goals as goal

pub returns : goal.returns
returns c = (refl, past-unread)
