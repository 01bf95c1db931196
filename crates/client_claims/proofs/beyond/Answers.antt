-- `beyond`: the claims beside demand 3, one by one.
use Rattle.model.specs.Always.{AlwaysShaped, AlwaysLong, NumbersSmall, NineByCount, NeverStray}
use Rattle.client_claims.specs.Claims.{CodesOfRuns, NumbersOfRuns, ReplyTaken}
use Rattle.client_claims.proofs.Runs.{reply-fits}
use Rattle.client_claims.proofs.beyond.Goals as goal

pub returns : goal.returns
unfolding AlwaysShaped AlwaysLong NumbersSmall NineByCount NeverStray CodesOfRuns NumbersOfRuns ReplyTaken
returns c =
    let b = c.beyond.ensures in (
      b.0,
      λ n sets list es p long e. ((b.1 n sets list es p).1 e, b.2 n sets list es long e, b.4 n sets list es p e),
      λ n sets list es p k. ((b.3 n sets list es p).clock k, (b.3 n sets list es p).grant k),
      λ n sets list es p m ms under. reply-fits _ m ms (rw under at (b.5 n sets list es p)),
    )
