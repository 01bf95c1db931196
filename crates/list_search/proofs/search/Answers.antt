-- `search`: the place that `position` finds.
use mathlib.Core.Path.{sym, ap, ◌∙◌}
use lib.ListN.{take}
use Rattle.model.specs.Deliver.{between}
use Rattle.list_search.specs.Places.{found_of}
use Rattle.list_search.proofs.Places.{found_first}
use Rattle.list_search.proofs.search.Goals as goal

pub returns-in-Some : goal.returns-in-Some
returns-in-Some g c = ap found_of (sym c.in-Some.is) ∙ found_first {A = g.row.E.Denot} (λ e. between c.args.a c.args.b (g.E.Entry.message_in e)) (take c.args.count c.args.list.now) c.place.result c.place.ensures

pub returns-in-None : goal.returns-in-None
returns-in-None g c = ap found_of (sym c.in-None.is) ∙ found_first {A = g.row.E.Denot} (λ e. between c.args.a c.args.b (g.E.Entry.message_in e)) (take c.args.count c.args.list.now) c.place.result c.place.ensures
