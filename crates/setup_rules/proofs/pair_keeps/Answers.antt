-- `pair_keeps`: one arm for each rule.
use mathlib.Core.Path.{sym, ap}
use mathlib.Core.Bool.{not}
use Rattle.model.proofs.Sets.{meet-and}
use Rattle.setup_rules.specs.Rules.{pair_keeps}
use Rattle.setup_rules.proofs.pair_keeps.Goals as goal

pub returns-in-Names : goal.returns-in-Names
unfolding pair_keeps
returns-in-Names c = λ n l m. rw c.in-Names.is

pub returns-in-Meets : goal.returns-in-Meets
unfolding pair_keeps
returns-in-Meets c = λ n l m. rw c.in-Meets.is (sym (meet-and n _ _ l))

pub returns-in-Unnested : goal.returns-in-Unnested
unfolding pair_keeps
returns-in-Unnested c = λ n l m. rw c.in-Unnested.is (ap not (c.are_nested.ensures n l m))

pub returns-in-Fits : goal.returns-in-Fits
unfolding pair_keeps
returns-in-Fits c = λ n l m. rw c.in-Fits.is (c.fit.ensures n l m)
