-- `deliveries`: the claims about deliveries, at the states of a run.
use mathlib.Core.List.{◌++◌}
use native.Mathlib.Omega.{arith}
use Rattle.model.specs.Run.{fresh, run}
use Rattle.model.specs.Always.{AlwaysShaped}
use Rattle.model.specs.Settling.{DeliveriesEnd, MeasureBounded, Deliverable, SettledServes}
use Rattle.model.proofs.Reached.{run-append}
use Rattle.model.proofs.Codes.{run_long}
use Rattle.client_claims.specs.Claims.{DeliveriesServe}
use Rattle.client_claims.proofs.deliveries.Goals as goal

pub returns : goal.returns
unfolding AlwaysShaped DeliveriesEnd MeasureBounded Deliverable SettledServes DeliveriesServe fresh
returns c =
    let b = c.beyond.ensures in
    let d = c.settles.ensures in (
      b.0,
      λ n sets list es ds p long none.
          let f = fresh n sets list in
          let s = run f es in
          let shaped = (b.1 n sets list es p).0 in
          let then = run-append f es ds in
          record {
            few = omega (arith, d.2 s ds none, d.4 s shaped);
            settled = rw then at (d.7 n sets list (es ++ ds) p);
            goes = d.6 (run s ds) (rw then at (b.1 n sets list (es ++ ds) p).0) (run_long ds s (run_long es f long));
          },
    )
