-- `family_rules::has_site` meets its contract.
use Prim.Native.Nat.{◌+◌}
use Rattle.std.proofs.Common.{rules}
use Rattle.std.proofs.lemmas.Iterator.{YieldsList-from_range, cases_from_any}
use mathlib.Core.Path.{◌≡◌, refl, ◌∙◌}
use native.Mathlib.Omega.{arith}
use borrow.Author.Tests.{tests}
use Rattle.family_sets.specs.Rule.{is_entry}
use Rattle.family_rules.specs.Family.{entry}
use Rattle.family_rules.proofs.Entries.{Found, found-any}
use Rattle.family_rules.proofs.has_site.Goals as goal

pub returns : goal.returns
unfolding is_entry
returns c =
    let a = c.args in
    let e = entry a.family a.n in
    let w = c.width_of.result in
    let found : Found e a.m w c.any.result =
    cases_from_any _ _ _ (λ k. a.m ≡ e (k + 1)) (λ k. a.m ≡ e (k + 1) → ⊥) c.any.ensures.ran (YieldsList-from_range 0 w w refl (omega arith)) (λ x q k. search (rules, tests)) (λ x q k. search (rules, tests)) in
    found-any e a.m w c.any.result found ∙ rw c.width_of.ensures
