-- `all_granted`: each arbiter of the list has granted, where it has a holder.
use Prim.Native.Nat.{ℕ, zero, suc, ◌≤◌}
use mathlib.Core.Path.{◌≡◌, refl, sym, ap, ◌∙◌}
use mathlib.Core.Bool.{Bool, ◌&&◌}
use mathlib.Core.List.{List}
use native.Mathlib.Omega.{arith}
use native.Mathlib.Numerals.{add-one}
use lib.ListN.{length, take, get_or}
use borrow.Author.Tests.{tests}
use Rattle.std.proofs.Common.{rules}
use Rattle.std.specs.List.{list_all}
use Rattle.std.proofs.lemmas.Iterator.{YieldsList-from_slice}
use Rattle.std.proofs.lemmas.Iterator.Search.{all_from_yields_List}
use Rattle.std.proofs.lemmas.List.{take_all}
use Rattle.std.proofs.lemmas.List.Folds.{list_all_more}
use Rattle.rig.specs.Limits.{site_limit}
use Rattle.rig.specs.declared.Arbiter.{Arbiter}
use Rattle.basics.specs.Helpers.{all}
use Rattle.model.specs.Tables.{at}
use Rattle.model.specs.Setup.{free_arbiter}
use Rattle.model_shaped.specs.Kept.{has_granted, all_granted}
use Rattle.state_resuming.proofs.all_granted.Goals as goal

-- a test of the first n entries of a list, by number
first_pass : (p : Arbiter → Bool) (d : Arbiter) (xs : List Arbiter) (n : ℕ) → n ≤ length xs → list_all p (take n xs) ≡ all (λ k. p (at d xs k)) n
unfolding all at
first_pass p d xs zero l = refl
first_pass p d xs (suc n) l =
    let more = rw add-one at (list_all_more p xs n d (omega arith)) in
    more ∙ ap (λ b. b && p (get_or xs n d)) (first_pass p d xs n (omega arith))

pub returns : goal.returns
unfolding all_granted
returns c =
    let g = c.args.rig in
    let long : length g.arbiters ≡ site_limit = search rules in
    let told : c.all.result ≡ list_all has_granted g.arbiters =
    all_from_yields_List has_granted _ _ _ c.all.ensures.ran (YieldsList-from_slice g.arbiters cc) (λ x b q k. search (rules, tests)) in
    told ∙ ap (list_all has_granted) (sym (take_all site_limit g.arbiters (omega arith))) ∙ first_pass has_granted free_arbiter g.arbiters site_limit (omega arith)
