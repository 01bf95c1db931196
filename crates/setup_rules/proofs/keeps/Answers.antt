-- `keeps`: one arm for each rule.
use mathlib.Core.Path.{◌∙◌}
use native.Mathlib.Numerals.{add-one}
use Rattle.basics.proofs.Basics.{all_both}
use Rattle.model.specs.Tables.{at}
use Rattle.model.specs.Setup.{meets_earlier, unnested_earlier}
use Rattle.setup_rules.specs.Rules.{pair_keeps, earlier_keep, keeps_rule}
use Rattle.setup_rules.proofs.keeps.Goals as goal

pub returns-in-Names : goal.returns-in-Names
unfolding keeps_rule at
returns-in-Names c = rw (c.in-Names.is, add-one) c.names_sites.ensures

pub returns-in-Meets : goal.returns-in-Meets
unfolding keeps_rule earlier_keep pair_keeps meets_earlier
returns-in-Meets c = rw c.in-Meets.is c.earlier_keep.ensures

pub returns-in-Unnested : goal.returns-in-Unnested
unfolding keeps_rule earlier_keep pair_keeps unnested_earlier
returns-in-Unnested c = rw c.in-Unnested.is c.earlier_keep-in-Unnested.ensures

pub returns-in-Fits : goal.returns-in-Fits
unfolding keeps_rule earlier_keep pair_keeps meets_earlier unnested_earlier
returns-in-Fits c = rw c.in-Fits.is (c.earlier_keep-in-Fits.ensures ∙ all_both _ _ _)
