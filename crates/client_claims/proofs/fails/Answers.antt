-- `fails`: an ask has a number, and what a fail that does nothing leaves.
use mathlib.Core.Path.{ap}
use native.Mathlib.Omega.{arith}
use Rattle.basics.proofs.Lists.{all_map}
use Rattle.model.specs.State.{Stored, mode_of, with_accepted}
use Rattle.model.specs.Fails.{FailsName, only_taken_off, OldFailsIdle}
use Rattle.client_claims.specs.Claims.{FailsGiven, LaterAskKept}
use Rattle.client_claims.proofs.fails.Goals as goal

pub returns : goal.returns
unfolding FailsName OldFailsIdle FailsGiven LaterAskKept only_taken_off with_accepted
returns c =
    let f = c.fails_name_asks.ensures in (
      f.0,
      λ n sets list es p. all_map _ _ _ (λ m named kind. omega (arith, (named kind).asks.number)) (f.1 n sets list es p),
      λ n sets list earlier es later k x p asks over a m first kind number code.
          ap (λ (s : Stored). mode_of s.tables k) (f.2 n sets list earlier es later k x p asks over a m first kind number code),
    )
