-- What a family's buffer of zeros, generated, gives the caller, by the parameter.
use Rattle.std.specs.Prelude.{Result, Ok, Err, cond}
use mathlib.Core.Path.{◌≡◌, sym, ◌∙◌}
use mathlib.Core.List.{List}
use Prim.Native.Nat.{ℕ}
use native.Mathlib.Omega.{arith}
use lib.ListN.{replicate}
use borrow.Author.Tests.{eq-eqb, ne_eqb}
use Rattle.rig.specs.Limits.{site_limit}
use Rattle.refusals.specs.declared.Refusal.{Refusal}
use Rattle.refusals.specs.Numbers.{number_of, code_in}
use Rattle.refusals.proofs.Refusals.{some_number}
use Rattle.basics.proofs.Basics.{by_bool}
use Rattle.model.specs.Setup.{setup_code}
use Rattle.family_rules.specs.declared.Family.{Family}
use Rattle.family_rules.specs.Family.{listed, sets_of}
use Rattle.family_votes.specs.Votes.{sets_by_votes}
use Rattle.families.specs.Made.{family_code, filled}
use Rattle.families.specs.ByVotes.{votes_code, filled_by_votes}
use Rattle.client_families.specs.Rig.{votes_rig_code}

module _ (f : Family) {r : Result ℕ Refusal} (c : code_in r ≡ family_code f site_limit) where
  -- a family that is made is listed, and its sets are those of the rule
  pub made-listed : {n : ℕ} {after : List ℕ} → r ≡ Ok n → after ≡ filled f (replicate site_limit 0) → (◌≡◌ {A = ℕ} (cond (listed f) 0 12) 0) × (after ≡ sets_of f)
  unfolding filled family_code
  made-listed e s =
      by_bool (listed f)
      (λ l. (rw l, rw (s, l)))
      (λ l. let z : 0 ≡ 12 = rw (e, l) at c in absurd (omega arith))

  -- a parameter that is not listed
  pub refused-unlisted : {why : Refusal} → r ≡ Err why → number_of why ≡ cond (listed f) 0 12
  unfolding family_code
  refused-unlisted {why} e =
      by_bool (listed f)
      (λ l. absurd (some_number why (rw (e, l) at c)))
      (λ l. let z : number_of why ≡ 12 = rw (e, l) at c in rw (z, l))

-- the same of votes
module _ (n : ℕ) (votes : List ℕ) {r : Result (Unit {0}) Refusal} (c : code_in r ≡ votes_code n votes site_limit) where
  pub votes-made : {u : _} {after : List ℕ} → r ≡ Ok u → after ≡ filled_by_votes n votes (replicate site_limit 0)
      → (votes_rig_code n votes ≡ setup_code n (sets_by_votes n votes)) × (after ≡ sets_by_votes n votes)
  unfolding filled_by_votes votes_rig_code
  votes-made e s =
      let z : 0 ≡ votes_code n votes site_limit = rw e at c in
      let b = eq-eqb (votes_code n votes site_limit) 0 (sym z) in
      (rw b, rw (s, b))

  pub refused-votes : {why : Refusal} → r ≡ Err why → number_of why ≡ votes_rig_code n votes
  unfolding votes_rig_code
  refused-votes {why} e =
      let z : number_of why ≡ votes_code n votes site_limit = rw e at c in
      rw (ne_eqb (votes_code n votes site_limit) 0 (λ t. some_number why (z ∙ t))) z
