-- "That every two sets of a family meet is to be shown", and request 2.6: that they are equally large. By calculation, for each listed plane.
use Prim.Native.Nat.{ℕ}
use mathlib.Core.Path.{◌≡◌, refl}
use mathlib.Core.Bool.{true}
use Rattle.basics.specs.Helpers.{all, any, count}
use Rattle.model.specs.Tables.{at}
use Rattle.model.specs.Sets.{member, set_of, meet, names}
use Rattle.model.specs.Setup.{size_listed, all_name, meets_earlier, all_meet, each_code, meeting_code}
use Rattle.family_sets.specs.Meeting.{SiteTo}
use Rattle.family_sets.specs.Rule.{is_entry, set_by, sets_up_to, meeting_by}
use Rattle.family_sets.proofs.Rule.{each_takes, each-taken}
use Rattle.family_plane.specs.Plane.{p_listed, plane_size, plane_width, first_matrix, other_matrix, plane_entry}
use Rattle.family_plane.proofs.Parameters.{by-p}

pub meets : (p : ℕ) → p_listed p ≡ true → meeting_by (is_entry (plane_entry p) (plane_width p)) (plane_size p) ≡ 0
unfolding at all any member set_of meet names size_listed all_name meets_earlier all_meet each_code meeting_code is_entry set_by sets_up_to first_matrix other_matrix plane_entry
meets p h = by-p (λ p. meeting_by (is_entry (plane_entry p) (plane_width p)) (plane_size p) ≡ 0) refl refl refl p h

-- no site stands twice in a row
pub equal : (p : ℕ) → p_listed p ≡ true → (n : ℕ) → SiteTo (plane_size p) n → count (is_entry (plane_entry p) (plane_width p) n) (plane_size p) ≡ plane_width p
unfolding all any count is_entry first_matrix other_matrix plane_entry
equal p h =
    each-taken (is_entry (plane_entry p) (plane_width p)) (plane_size p) (plane_width p)
    (by-p (λ p. each_takes (is_entry (plane_entry p) (plane_width p)) (plane_size p) (plane_width p) ≡ true) refl refl refl p h)
