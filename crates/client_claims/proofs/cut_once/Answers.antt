-- `cut_once`: the claim at two parts.
use mathlib.Core.List.{[], ◌∷◌, flatten, append-nil}
use Rattle.player_parts.specs.Parts.{CutsAgree}
use Rattle.client_claims.specs.Claims.{CutOnce}
use Rattle.client_claims.proofs.cut_once.Goals as goal

pub returns : goal.returns
unfolding CutsAgree CutOnce flatten
returns c = (c.cuts_agree.ensures.0, λ a b. rw (append-nil b) at (c.cuts_agree.ensures.1 (a ∷ b ∷ [])))
