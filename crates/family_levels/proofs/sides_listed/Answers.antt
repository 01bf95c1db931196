-- `family_levels::sides_listed` meets its contract.
use Rattle.std.proofs.lemmas.Iterator.{YieldsList-from_slice}
use Rattle.std.proofs.lemmas.Iterator.Search.{all_from_yields_List}
use borrow.Author.Tests.{tests}
use mathlib.Core.Path.{◌≡◌, sym, ◌∙◌}
use mathlib.Core.List.{[], ◌∷◌}
use native.Mathlib.Omega.{arith}
use Rattle.std.proofs.Common.{rules}
use Rattle.std.specs.List.{list_all}
use Rattle.rig.specs.Limits.{site_limit}
use Rattle.model.specs.State.{in_range}
use Rattle.family_levels.proofs.Sides.{ProductsSmall, side-fails, product-decides, products}
use Rattle.family_levels.proofs.sides_listed.Goals as goal
use Rattle.family_levels.proofs.sides_listed.Goals.{After-all, Then-all}

told : (c : After-all) → let a = c.args in c.all.result ≡ list_all (in_range site_limit) (a.a ∷ a.b ∷ a.c ∷ [])
told c =
    let a = c.args in
    all_from_yields_List (in_range site_limit) _ _ _ c.all.ensures.ran (YieldsList-from_slice (a.a ∷ a.b ∷ a.c ∷ []) cc) (λ x b q k. search (rules, tests))

-- no side is above the limit where they are multiplied
small : (c : Then-all) → let a = c.args in ProductsSmall a.a a.b a.c
small c = products _ _ _ (sym (told (goal.at.Then-all c).After-all) ∙ c.if-all.true)

pub overflow_mul-result : goal.overflow_mul-result
overflow_mul-result c = omega (arith, small (goal.at.overflow_mul-result c).Then-all)

pub overflow_mul-result-then-all : goal.overflow_mul-result-then-all
overflow_mul-result-then-all c = omega (arith, small (goal.at.overflow_mul-result-then-all c).Then-all)

pub returns-then-all : goal.returns-then-all
returns-then-all c = product-decides _ _ _ (sym (told (goal.at.returns-then-all c).After-all) ∙ c.if-all.true)

pub returns-else-all : goal.returns-else-all
returns-else-all c = rw c.if-all.false (side-fails _ _ _ (sym (told (goal.at.returns-else-all c).After-all) ∙ c.if-all.false))
