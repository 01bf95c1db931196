-- `families::billiard_set` meets its contract.
use mathlib.Core.Path.{sym, ◌∙◌}
use borrow.Author.Tests.{eq-eqb, ne_eqb}
use Rattle.basics.proofs.Basics.{or-second}
use Rattle.family_billiard.specs.Billiard.{q_listed, q_computed}
use Rattle.family_rules.specs.Family.{listed, computed}
use Rattle.families.specs.Made.{billiard_set}
use Rattle.family_rules.proofs.Parameters.{listed-computed}
use Rattle.families.proofs.billiard_set.Goals as goal

pub set_at-requires : goal.set_at-requires
unfolding computed q_computed
set_at-requires c = or-second (q_listed c.args.q) _ (eq-eqb _ _ c.if-q-eq9.true)

pub returns-then-q-eq9 : goal.returns-then-q-eq9
unfolding billiard_set computed q_computed
returns-then-q-eq9 c = rw (or-second (q_listed c.args.q) _ (eq-eqb _ _ c.if-q-eq9.true)) c.set_at.ensures

pub set_at-requires-then-is_listed : goal.set_at-requires-then-is_listed
set_at-requires-then-is_listed c = listed-computed _ (sym c.is_listed.ensures ∙ c.if-is_listed.true)

pub returns-then-is_listed : goal.returns-then-is_listed
unfolding billiard_set
returns-then-is_listed c = rw (listed-computed _ (sym c.is_listed.ensures ∙ c.if-is_listed.true)) c.set_at-then-is_listed.ensures

pub returns : goal.returns
unfolding billiard_set computed q_computed listed
returns c = rw (sym c.is_listed.ensures ∙ c.if-is_listed.false, ne_eqb _ _ c.if-q-eq9.false)
