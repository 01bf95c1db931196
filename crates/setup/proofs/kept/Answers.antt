-- `kept`: the sets of sites 1 to N, and behind them what is left of the zeros.
use Prim.Native.Nat.{◌-◌}
use Rattle.std.proofs.lemmas.List.{drop-replicate}
use mathlib.Core.Path.{ap, ◌∙◌}
use mathlib.Core.List.{◌++◌}
use lib.ListN.{replicate}
use Rattle.rig.specs.Limits.{site_limit}
use Rattle.model.specs.Setup.{kept_sets}
use Rattle.setup.proofs.kept.Goals as goal

pub returns : goal.returns
unfolding kept_sets
returns c =
    let n = c.args.size in
    ap (λ xs. c.copy_from_slice.new.self ++ xs) (drop-replicate n site_limit 0) ∙ ap (λ xs. xs ++ replicate (site_limit - n) 0) c.copy_from_slice.ensures.after
