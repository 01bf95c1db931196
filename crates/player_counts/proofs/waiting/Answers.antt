-- `waiting`: how many of the sites wait.
use mathlib.Core.Path.{◌≡◌, refl, ◌∙◌}
use lib.ListN.{take, length}
use borrow.Author.Tests.{tests}
use Rattle.std.proofs.Common.{rules}
use Rattle.std.specs.List.{filter}
use Rattle.std.proofs.lemmas.Iterator.{YieldsList-from_slice, YieldsList-from_take}
use Rattle.std.proofs.lemmas.Iterator.Consumers.{YieldsList-from_filter, count_from_yields_List}
use Rattle.std.proofs.lemmas.List.Sums.{length-filter}
use Rattle.rig.specs.declared.Site.{Site}
use Rattle.model.specs.State.{is_waiting}
use Rattle.model.specs.Run.{waiting_count}
use Rattle.player_counts.proofs.Sites.{first-count}
use Rattle.player_counts.proofs.waiting.Goals as goal

pub returns : goal.returns
unfolding waiting_count
returns c =
    let g = c.args.rig in
    let told : c.count.result ≡ length (filter (λ (s : Site). is_waiting s.mode) (take g.size g.sites)) =
    count_from_yields_List _ _ c.count.ensures.ran (YieldsList-from_filter _ (λ (s : Site). is_waiting s.mode) (YieldsList-from_take g.size (YieldsList-from_slice g.sites cc) cc) c.filter.ensures.closure (λ x b q k. search (rules, tests))) in
    told ∙ length-filter (λ (s : Site). is_waiting s.mode) (take g.size g.sites) ∙ first-count (λ s. is_waiting s.mode) refl g.sites g.size
