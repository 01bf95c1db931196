-- `first_breaking`: the first site that breaks the rule.
use Prim.Native.Nat.{ℕ, ◌+◌}
use Rattle.std.proofs.Common.{rules, option_map}
use Rattle.std.proofs.lemmas.Iterator.{first_from_Range}
use borrow.Author.Tests.{tests}
use mathlib.Core.Path.{◌≡◌}
use mathlib.Core.Bool.{Bool, true, false}
use Rattle.setup_rules.specs.Rules.{keeps_rule}
use Rattle.setup_faults.specs.Faults.{first_breaking, site_found}
use Rattle.setup_faults.proofs.Rules.{FirstFails, found_first}
use Rattle.setup_faults.proofs.first_breaking.Goals as goal

pub returns : goal.returns
unfolding first_breaking
returns c =
    let a = c.args in
    let p : ℕ → Bool = keeps_rule a.rule a.size a.sets.now in
    let found : FirstFails p a.size c.find.result =
    first_from_Range _ _ _ _ (λ k. p (k + 1) ≡ false) (λ k. p (k + 1) ≡ true) c.find.ensures.ran (λ x q k. search (rules, tests)) (λ x q k. search (rules, tests)) in
    let told : option_map (λ k. k + 1) c.find.result ≡ site_found (first_breaking a.rule a.size a.sets.now) = found_first p a.size c.find.result found in
    search (rules, told)
