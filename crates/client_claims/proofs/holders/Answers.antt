-- `holders`: by demand 3 of each state.
use Rattle.model.specs.Run.{Demand3}
use Rattle.client_claims.specs.Claims.{OneHolder}
use Rattle.client_claims.proofs.Runs.{one-holder}
use Rattle.client_claims.proofs.holders.Goals as goal

pub returns : goal.returns
unfolding Demand3 OneHolder
returns c = let d = c.demand_3.ensures in (d.0, λ n sets list es p. one-holder _ (d.1 n sets list es p))
