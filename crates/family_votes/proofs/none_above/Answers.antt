-- `none_above`: the first N votes are at most 100.
use Rattle.std.proofs.Common.{rules}
use Rattle.std.proofs.lemmas.Iterator.{YieldsList-from_slice, YieldsList-from_take}
use Rattle.std.proofs.lemmas.Iterator.Search.{all_from_yields_List}
use borrow.Author.Tests.{tests}
use Rattle.std.specs.List.{list_all}
use lib.Dec.{leb}
use lib.ListN.{take}
use mathlib.Core.Path.{◌≡◌, refl, ◌∙◌}
use Rattle.family_votes.specs.Votes.{vote_limit, none_above}
use Rattle.family_votes.proofs.Listed.{first_pass}
use Rattle.family_votes.proofs.none_above.Goals as goal

pub returns : goal.returns
unfolding none_above
returns c =
    let a = c.args in
    let told : c.all.result ≡ list_all (λ v. leb v vote_limit) (take a.size a.votes.now) =
    all_from_yields_List (λ v. leb v vote_limit) _ _ _ c.all.ensures.ran (YieldsList-from_take a.size (YieldsList-from_slice a.votes.now cc) cc) (λ x b q k. search (rules, tests)) in
    told ∙ first_pass a.votes.now (λ v. leb v vote_limit) refl a.size
