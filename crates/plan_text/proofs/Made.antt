-- The text of a family by what generating it answers.
use Rattle.std.specs.Prelude.{Result, Ok, Err}
use Prim.Native.Nat.{ℕ}
use mathlib.Core.List.{List}
use mathlib.Core.Path.{◌≡◌, sym, ◌∙◌}
use native.Mathlib.Omega.{arith}
use lib.ListN.{replicate}
use borrow.Author.Tests.{eq-eqb, ne_eqb}
use Rattle.rig.specs.Limits.{site_limit}
use Rattle.basics.proofs.Basics.{by_bool}
use Rattle.family_rules.specs.declared.Family.{Family}
use Rattle.refusals.specs.declared.Refusal.{Refusal}
use Rattle.refusals.specs.Numbers.{number_of, code_in}
use Rattle.refusals.proofs.Refusals.{some_number}
use Rattle.family_rules.specs.Family.{listed, size_of}
use Rattle.families.specs.Made.{family_code, filled}
use Rattle.families.specs.ByVotes.{votes_code, filled_by_votes}
use Rattle.plan_lines.specs.Lines.{code_text, setup_text}
use Rattle.plan_text.specs.Plan.{family_text, votes_text}

module _ (f : Family) {r : Result ℕ Refusal} (c : code_in r ≡ family_code f site_limit) where
  pub made-text : {n : ℕ} {after : List ℕ} → r ≡ Ok n → n ≡ size_of f → after ≡ filled f (replicate site_limit 0) → setup_text n after ≡ family_text f
  unfolding filled family_code family_text
  made-text e s a =
      by_bool (listed f)
      (λ l. rw (s, a, l))
      (λ l. let z : 0 ≡ 12 = rw (e, l) at c in absurd (omega arith))

  pub refused-text : {why : Refusal} → r ≡ Err why → code_text (number_of why) ≡ family_text f
  unfolding family_code family_text
  refused-text {why} e =
      by_bool (listed f)
      (λ l. absurd (some_number why (rw (e, l) at c)))
      (λ l. let z : number_of why ≡ 12 = rw (e, l) at c in rw (z, l))

module _ (n : ℕ) (votes : List ℕ) {r : Result (Unit {0}) Refusal} (c : code_in r ≡ votes_code n votes site_limit) where
  pub votes-text : {u : _} {after : List ℕ} → r ≡ Ok u → after ≡ filled_by_votes n votes (replicate site_limit 0) → setup_text n after ≡ votes_text n votes
  unfolding filled_by_votes votes_text
  votes-text e s = let z : 0 ≡ votes_code n votes site_limit = rw e at c in rw (s, eq-eqb (votes_code n votes site_limit) 0 (sym z))

  pub refused-votes : {why : Refusal} → r ≡ Err why → code_text (number_of why) ≡ votes_text n votes
  unfolding votes_text
  refused-votes {why} e =
      let z : number_of why ≡ votes_code n votes site_limit = rw e at c in
      rw (ne_eqb (votes_code n votes site_limit) 0 (λ t. some_number why (z ∙ t)), ← z)
