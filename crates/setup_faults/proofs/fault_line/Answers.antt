-- `fault_line`: the first faulty set where there is one, else the first that misses an earlier one, else the first that is nested with one.
use mathlib.Core.Path.{refl, ◌∙◌}
use native.Mathlib.Omega.{arith}
use borrow.Author.Tests.{eq-eqb, ne_eqb}
use Rattle.basics.proofs.Basics.{lowest-within}
use Rattle.setup_faults.specs.Faults.{first_breaking, fault_line}
use Rattle.setup_faults.proofs.Rules.{told-site, told-none, told-which, told_or_0, all-name, all_meet_lem}
use Rattle.setup_faults.proofs.fault_line.Goals as goal

pub overflow_add-result : goal.overflow_add-result
unfolding first_breaking
overflow_add-result c = omega (arith, lowest-within _ _ _ (told-which c.in-Some.ensures))

pub returns-in-Some : goal.returns-in-Some
unfolding fault_line
returns-in-Some c = rw (all-name _ _ ∙ ne_eqb _ 0 (told-site c.in-Some.ensures refl), told-which c.in-Some.ensures)

pub first_breaking-requires-2 : goal.first_breaking-requires-2
first_breaking-requires-2 c =
    let p = c.requires in
    (p.0, p.1, all-name _ _ ∙ eq-eqb _ 0 (told-none c.in_default.ensures refl))

pub overflow_add-result-in-Some-first_breaking : goal.overflow_add-result-in-Some-first_breaking
unfolding first_breaking
overflow_add-result-in-Some-first_breaking c = omega (arith, lowest-within _ _ _ (told-which c.in-Some-first_breaking.ensures))

pub returns-in-Some-first_breaking : goal.returns-in-Some-first_breaking
unfolding fault_line
returns-in-Some-first_breaking c =
    let e = c.in-Some-first_breaking.ensures in
    rw (all-name _ _ ∙ eq-eqb _ 0 (told-none c.in_default.ensures refl), all_meet_lem _ _ ∙ ne_eqb _ 0 (told-site e refl), told-which e)

pub first_breaking-requires-3 : goal.first_breaking-requires-3
first_breaking-requires-3 c =
    let p = c.requires in
    (p.0, p.1, all-name _ _ ∙ eq-eqb _ 0 (told-none c.in_default.ensures refl))

pub overflow_add-result-2 : goal.overflow_add-result-2
unfolding first_breaking
overflow_add-result-2 c = omega (arith, lowest-within _ _ _ (c.unwrap_or.ensures ∙ told_or_0 c.first_breaking-3.ensures))

pub returns : goal.returns
unfolding fault_line
returns c =
    rw (all-name _ _ ∙ eq-eqb _ 0 (told-none c.in_default.ensures refl), all_meet_lem _ _ ∙ eq-eqb _ 0 (told-none c.in_default-first_breaking.ensures refl), c.unwrap_or.ensures ∙ told_or_0 c.first_breaking-3.ensures)
