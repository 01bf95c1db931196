-- "That every two sets of a family meet is to be shown", and request 2.6: that they are equally large. By calculation, for each listed billiard.
use Prim.Native.Nat.{ℕ, ◌-◌}
use mathlib.Core.Path.{◌≡◌, refl}
use mathlib.Core.Bool.{true}
use mathlib.Core.List.{[], ◌∷◌}
use lib.Dec.{eqb}
use lib.ListN.{get_or}
use Rattle.basics.specs.Helpers.{all, any, count}
use Rattle.model.specs.Tables.{at}
use Rattle.model.specs.Sets.{member, set_of, meet, names}
use Rattle.model.specs.Setup.{size_listed, all_name, meets_earlier, all_meet, each_code, meeting_code}
use Rattle.family_sets.specs.Meeting.{SiteTo}
use Rattle.family_sets.specs.Rule.{is_entry, set_by, sets_up_to, meeting_by}
use Rattle.family_sets.proofs.Rule.{each_takes, each-taken}
use Rattle.family_billiard.specs.Billiard.{q_listed, billiard_size, mod_from_one, first_site, next_above, next_below, next_site, path_site, billiard_entry}
use Rattle.family_billiard.proofs.Parameters.{by-q}

pub meets : (q : ℕ) → q_listed q ≡ true → meeting_by (is_entry (billiard_entry q) q) (billiard_size q) ≡ 0
unfolding at all any member set_of meet names size_listed all_name meets_earlier all_meet each_code meeting_code is_entry set_by sets_up_to mod_from_one first_site next_above next_below next_site path_site billiard_entry
meets q h = by-q (λ q. meeting_by (is_entry (billiard_entry q) q) (billiard_size q) ≡ 0) refl refl refl q h

-- no site comes twice on a path
pub equal : (q : ℕ) → q_listed q ≡ true → (n : ℕ) → SiteTo (billiard_size q) n → count (is_entry (billiard_entry q) q n) (billiard_size q) ≡ q
unfolding all any count is_entry mod_from_one first_site next_above next_below next_site path_site billiard_entry
equal q h =
    each-taken (is_entry (billiard_entry q) q) (billiard_size q) q
    (by-q (λ q. each_takes (is_entry (billiard_entry q) q) (billiard_size q) q ≡ true) refl refl refl q h)

-- "billiard sets {11, 15, 16, 18, 19, 21, 22, 23, 26} (site 11) and {3, 7, 11, 15, 19, 24, 29, 34, 38} (site 34), for q = 9 of the rule itself"
pub nine-site-11 : set_by (is_entry (billiard_entry 9) 9) (billiard_size 9) 11 ≡ set_of (λ m. any (λ k. eqb m (get_or (11 ∷ 15 ∷ 16 ∷ 18 ∷ 19 ∷ 21 ∷ 22 ∷ 23 ∷ 26 ∷ []) (k - 1) 0)) 9) (billiard_size 9)
unfolding any set_of is_entry set_by mod_from_one first_site next_above next_below next_site path_site billiard_entry
nine-site-11 = refl

pub nine-site-34 : set_by (is_entry (billiard_entry 9) 9) (billiard_size 9) 34 ≡ set_of (λ m. any (λ k. eqb m (get_or (3 ∷ 7 ∷ 11 ∷ 15 ∷ 19 ∷ 24 ∷ 29 ∷ 34 ∷ 38 ∷ []) (k - 1) 0)) 9) (billiard_size 9)
unfolding any set_of is_entry set_by mod_from_one first_site next_above next_below next_site path_site billiard_entry
nine-site-34 = refl
