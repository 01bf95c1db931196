-- Which set is at fault, and document 01, "The player": the line that a refused setup names.
use Rattle.std.specs.Prelude.{ℕ, ◌+◌, not, cond, List, Option, Some, None, eqb}
use Rattle.basics.specs.Helpers.{lowest}
use Rattle.model.specs.Setup.{all_name, all_meet}
use Rattle.setup_rules.specs.declared.Rule.{Rule}
use Rattle.setup_rules.specs.declared.Rule.TheVariants.{Names, Meets, Unnested}
use Rattle.setup_rules.specs.Rules.{keeps_rule}

-- the first set that breaks a rule, 0 none: "for 2 the first faulty set, for 3 the first set that misses an earlier one"; request 2.6: "the first set that
-- strictly contains an earlier one or is strictly contained in one"
unfoldable pub first_breaking : Rule → ℕ → List ℕ → ℕ
first_breaking rule n sets = lowest (λ k. not (keeps_rule rule n sets k)) n

-- the site, as a search answers it: none for 0
abbrev pub site_found : ℕ → Option ℕ
site_found k = cond (eqb k 0) None (Some k)

-- "2 first"; 17 "straight after 3"; the set of site k stands in line k + 1
unfoldable pub fault_line : ℕ → List ℕ → ℕ
fault_line n sets =
    cond (not (all_name n sets)) (first_breaking Names n sets + 1)
    (cond (not (all_meet n sets)) (first_breaking Meets n sets + 1)
    (first_breaking Unnested n sets + 1))
