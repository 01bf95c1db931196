-- The sets of some votes, by calculation.
use Prim.Native.Nat.{ℕ}
use mathlib.Core.Bool.{true, false}
use mathlib.Core.List.{List, [], ◌∷◌}
use mathlib.Core.Path.{◌≡◌, refl}
use Rattle.basics.specs.Helpers.{all, any, lowest}
use Rattle.model.specs.Tables.{at}
use Rattle.model.specs.Sets.{member, set_of, meet, names, contains, strictly_contains, nested}
use Rattle.model.specs.Setup.{size_listed, all_name, meets_earlier, all_meet, unnested_earlier, all_minimal, each_code, meeting_code, setup_code}
use Rattle.family_sets.specs.Rule.{is_entry, set_by, sets_up_to, code_by}
use Rattle.family_votes.specs.Votes.{none_above, all_zero, votes_listed, vote_sum, site_after, site_from, taken, exceeds_half, run_length, takes}

-- the set of a site
abbrev set : ℕ → List ℕ → ℕ → ℕ
set size votes n = set_of (takes size votes n) size

-- Votes 3, 1, 1, 1 have the sum 6, and 3 are not more than half of it: sites 1 and 2; 2, 3, 4 and 1; 3, 4 and 1; 4 and 1.
main-desk : (set 4 (3 ∷ 1 ∷ 1 ∷ 1 ∷ []) 1 ≡ 3) × (set 4 (3 ∷ 1 ∷ 1 ∷ 1 ∷ []) 2 ≡ 15) × (set 4 (3 ∷ 1 ∷ 1 ∷ 1 ∷ []) 3 ≡ 13) × (set 4 (3 ∷ 1 ∷ 1 ∷ 1 ∷ []) 4 ≡ 9)
unfolding set_of is_entry any run_length lowest exceeds_half taken site_from site_after vote_sum at
main-desk = (refl, refl, refl, refl)

-- Request 2.6: the set of site 2 strictly contains that of site 1, so setup rejects the family. Of votes 1, 1 and 1 all sets have two sites.
contained : (code_by (takes 4 (3 ∷ 1 ∷ 1 ∷ 1 ∷ [])) 4 ≡ 17) × (code_by (takes 3 (1 ∷ 1 ∷ 1 ∷ [])) 3 ≡ 0)
unfolding set_of is_entry any all run_length lowest exceeds_half taken site_from site_after vote_sum at set_by sets_up_to member meet names contains strictly_contains nested size_listed all_name meets_earlier all_meet unnested_earlier all_minimal each_code meeting_code setup_code
contained = (refl, refl)

-- Votes 0, 2, 0, 1, 0 have the sum 3: site 1, without votes, takes site 2; site 3 takes 3, 4, 5, 1 and 2.
without-votes : (set 5 (0 ∷ 2 ∷ 0 ∷ 1 ∷ 0 ∷ []) 1 ≡ 3) × (set 5 (0 ∷ 2 ∷ 0 ∷ 1 ∷ 0 ∷ []) 2 ≡ 2) × (set 5 (0 ∷ 2 ∷ 0 ∷ 1 ∷ 0 ∷ []) 3 ≡ 31)
unfolding set_of is_entry any run_length lowest exceeds_half taken site_from site_after vote_sum at
without-votes = (refl, refl, refl)

-- 100 is listed, 101 is not; all 0 is not; entries past N are not read
listed :
    (votes_listed 2 (0 ∷ 100 ∷ []) ≡ true)
    × (votes_listed 2 (1 ∷ 101 ∷ []) ≡ false)
    × (votes_listed 2 (0 ∷ 0 ∷ 1 ∷ []) ≡ false)
    × (votes_listed 1 (1 ∷ 101 ∷ []) ≡ true)
unfolding votes_listed none_above all_zero all at
listed = (refl, refl, refl, refl)
