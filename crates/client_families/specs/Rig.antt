-- The rig of a family of request sets, and two sets of the billiard of q = 9.
use Rattle.std.specs.Prelude.{ℕ, ◌+◌, ◌-◌, ◌^◌, ◌≡◌, cond, List, [], ◌∷◌, eqb, Result, IfOk}
use Rattle.rig.specs.Limits.{site_limit}
use Rattle.rig.specs.declared.Rig.{Rig}
use Rattle.refusals.specs.declared.Refusal.{Refusal}
use Rattle.refusals.specs.Numbers.{code_in}
use Rattle.model.specs.Setup.{setup_code, fresh_rig}
use Rattle.family_rules.specs.declared.Family.{Family}
use Rattle.family_rules.specs.Family.{listed, size_of, sets_of}
use Rattle.family_votes.specs.Votes.{sets_by_votes}
use Rattle.families.specs.ByVotes.{votes_code}

-- Setup accepts the sets of every listed family, and makes their fresh rig; "12 if the parameter is not listed".
abbrev pub IsFamilyRig : Family → Result Rig Refusal → Type 0
IsFamilyRig f r = (code_in r ≡ cond (listed f) 0 12) × IfOk r (λ g. g ≡ fresh_rig (size_of f) (sets_of f))

-- A family by votes: setup's code of its sets; where the family is turned down, the code of that.
unfoldable pub votes_rig_code : ℕ → List ℕ → ℕ
votes_rig_code n votes =
    let code = votes_code n votes site_limit in
    cond (eqb code 0) (setup_code n (sets_by_votes n votes)) code

abbrev pub IsVotesRig : ℕ → List ℕ → Result Rig Refusal → Type 0
IsVotesRig n votes r = (code_in r ≡ votes_rig_code n votes) × IfOk r (λ g. g ≡ fresh_rig n (sets_by_votes n votes))

-- a set as its members: "its bit n − 1, the lowest being bit 0, stands for site n"
unfoldable pub of_sites : List ℕ → ℕ
of_sites [] = 0
of_sites (n ∷ ns) = 2 ^ (n - 1) + of_sites ns

-- "billiard sets {11, 15, 16, 18, 19, 21, 22, 23, 26} (site 11) and {3, 7, 11, 15, 19, 24, 29, 34, 38} (site 34), for q = 9"
unfoldable pub nine_sets : List ℕ
nine_sets =
    of_sites (11 ∷ 15 ∷ 16 ∷ 18 ∷ 19 ∷ 21 ∷ 22 ∷ 23 ∷ 26 ∷ [])
    ∷ of_sites (3 ∷ 7 ∷ 11 ∷ 15 ∷ 19 ∷ 24 ∷ 29 ∷ 34 ∷ 38 ∷ [])
    ∷ []

-- 1 for N, 2 and 3 for the sets, 4 to 10 for an event, 11 for a line, 12 for a parameter, 13 for a length, 14 and 15 for a saved text, 16 for votes, 17 for nested sets
abbrev pub refusal_numbers : List ℕ
refusal_numbers = 1 ∷ 2 ∷ 3 ∷ 4 ∷ 5 ∷ 6 ∷ 7 ∷ 8 ∷ 9 ∷ 10 ∷ 11 ∷ 12 ∷ 13 ∷ 14 ∷ 15 ∷ 16 ∷ 17 ∷ []
