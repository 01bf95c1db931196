-- What setup asks of each set, rule by rule. A set that breaks Names gets 2, "a set is empty or names a site outside 1 to N", one that breaks Meets 3,
-- "two sets share no site", and one that breaks Unnested 17, request 2.6. Fits is Meets and Unnested together.
use Rattle.std.specs.Prelude.{ℕ, pred, ◌≡◌, Bool, true, not, ◌&&◌, List}
use Rattle.basics.specs.Helpers.{all}
use Rattle.model.specs.Tables.{at}
use Rattle.model.specs.Sets.{names, meet, nested}
use Rattle.model.specs.Setup.{all_name, meets_earlier, unnested_earlier}
use Rattle.setup_rules.specs.declared.Rule.{Rule}
use Rattle.setup_rules.specs.declared.Rule.TheVariants.{Names, Meets, Unnested, Fits}

-- set k keeps a rule
unfoldable pub keeps_rule : Rule → ℕ → List ℕ → ℕ → Bool
keeps_rule Names n sets k = names n (at 0 sets k)
keeps_rule Meets n sets k = meets_earlier n sets k
keeps_rule Unnested n sets k = unnested_earlier n sets k
keeps_rule Fits n sets k = meets_earlier n sets k && unnested_earlier n sets k

-- what the code compares: two sets, of which Names asks nothing, and set k with each earlier one
unfoldable pub pair_keeps : Rule → ℕ → ℕ → ℕ → Bool
pair_keeps Names n a b = true
pair_keeps Meets n a b = meet n a b
pair_keeps Unnested n a b = not (nested n a b)
pair_keeps Fits n a b = meet n a b && not (nested n a b)

unfoldable pub earlier_keep : Rule → ℕ → List ℕ → ℕ → Bool
earlier_keep rule n sets k = all (λ l. pair_keeps rule n (at 0 sets k) (at 0 sets l)) (pred k)

-- sets are compared only where none is empty or names a site outside 1 to N
abbrev pub MayCompare : Rule → ℕ → List ℕ → Type 0
MayCompare Names n sets = Unit {0}
MayCompare Meets n sets = all_name n sets ≡ true
MayCompare Unnested n sets = all_name n sets ≡ true
MayCompare Fits n sets = all_name n sets ≡ true
