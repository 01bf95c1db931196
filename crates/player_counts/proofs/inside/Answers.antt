-- `inside`: the first site that is inside.
use mathlib.Core.Path.{refl}
use mathlib.Core.Bool.{true, false}
use mathlib.Core.Path.{◌≡◌}
use lib.ListN.{take}
use borrow.Author.Tests.{tests}
use Rattle.std.proofs.Common.{rules}
use Rattle.std.proofs.lemmas.Iterator.{YieldsList-from_slice, YieldsList-from_take, IsFirst-from_position}
use Rattle.rig.specs.declared.Site.{Site}
use Rattle.model.specs.State.{is_inside}
use Rattle.model.specs.Printed.{inside_up_to}
use Rattle.player_counts.proofs.Sites.{FirstAt, none-lowest, some-lowest}
use Rattle.player_counts.proofs.inside.Goals as goal
use Rattle.player_counts.proofs.inside.Goals.{After-position-first}

told : (c : After-position-first) → let g = c.args.rig in FirstAt (λ s. is_inside s.mode) (take g.size g.sites) c.position-first.result
told c =
    let g = c.args.rig in
    IsFirst-from_position _ _ _ (λ (s : Site). is_inside s.mode ≡ true) (λ (s : Site). is_inside s.mode ≡ false) c.position-first.ensures.ran (YieldsList-from_take g.size (YieldsList-from_slice g.sites cc) cc) (λ x q k. search (rules, tests)) (λ x q k. search (rules, tests))

pub returns-in-Some : goal.returns-in-Some
unfolding inside_up_to
returns-in-Some c =
    let g = c.args.rig in
    let h = rw c.in-Some.is at (told (goal.at.returns-in-Some c).After-position-first) in
    (some-lowest (λ s. is_inside s.mode) refl g.sites g.size c.in-Some.i h).0

pub returns-in-None : goal.returns-in-None
unfolding inside_up_to
returns-in-None c =
    let g = c.args.rig in
    let h = rw c.in-None.is at (told (goal.at.returns-in-None c).After-position-first) in
    none-lowest (λ s. is_inside s.mode) refl g.sites g.size h
