-- `deliver_found`: the place that `first` answers is the one by which `deliver` promises.
use Rattle.client_found.proofs.Cases.{by-case}
use Rattle.client_found.proofs.deliver_found.Goals as goal

pub returns : goal.returns
returns c =
    let a = c.args in
    let f = c.first-found.ensures in
    let e = c.deliver-done.ensures in
    (f, by-case a.size a.accepted a.b a.set a.count a.site a.arbiter _ _ _ _ a.a f e.0 e.1)
