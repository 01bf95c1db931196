-- `vote_sum`: the sum of the first N votes, at most 100 each.
use Prim.Native.Nat.{◌<◌, ◌^◌}
use Rattle.std.specs.List.{sum}
use Rattle.std.proofs.lemmas.Iterator.{YieldsList-from_slice, YieldsList-from_take}
use Rattle.std.proofs.lemmas.Iterator.Consumers.{fits_from_yields_list, sum_from_yields_List}
use lib.ListN.{take}
use mathlib.Core.Path.{◌≡◌, ◌∙◌}
use native.Mathlib.Omega.{arith}
use Rattle.family_votes.proofs.Listed.{first_sum, sum-most}
use Rattle.family_votes.proofs.vote_sum.Goals as goal

pub sum-requires-clause-fits : goal.sum-requires-clause-fits
sum-requires-clause-fits c =
    let a = c.args in
    let p = c.requires in
    let most = sum-most a.votes.now a.size p.1 a.size (omega arith) in
    let fits : sum (take a.size a.votes.now) < 2 ^ 64 = omega (arith, first_sum a.votes.now a.size) in
    fits_from_yields_list _ _ (YieldsList-from_take a.size (YieldsList-from_slice a.votes.now cc) cc) fits

pub returns : goal.returns
returns c =
    let a = c.args in
    let told : c.sum.result ≡ sum (take a.size a.votes.now) =
    sum_from_yields_List _ _ c.sum.ensures.ran (YieldsList-from_take a.size (YieldsList-from_slice a.votes.now cc) cc) in
    told ∙ first_sum a.votes.now a.size
