-- "That every two sets of a family meet is to be shown", and request 2.6: that they are equally large. By calculation, for each listed grid.
use Prim.Native.Nat.{ℕ}
use mathlib.Core.Path.{◌≡◌, refl}
use mathlib.Core.Bool.{true}
use Rattle.basics.specs.Helpers.{all, any, count}
use Rattle.model.specs.Tables.{at}
use Rattle.model.specs.Sets.{member, set_of, meet, names}
use Rattle.model.specs.Setup.{size_listed, all_name, meets_earlier, all_meet, each_code, meeting_code}
use Rattle.family_sets.specs.Meeting.{SiteTo}
use Rattle.family_sets.specs.Rule.{is_entry, set_by, sets_up_to, meeting_by}
use Rattle.family_sets.proofs.Rule.{each_takes, each-taken}
use Rattle.family_grid.specs.Grid.{side_listed, grid_size, grid_width, grid_entry, grid_members}
use Rattle.family_grid.proofs.Parameters.{by_side}

pub meets : (s : ℕ) → side_listed s ≡ true → meeting_by (is_entry (grid_entry s) (grid_width s)) (grid_size s) ≡ 0
unfolding at all any member set_of meet names size_listed all_name meets_earlier all_meet each_code meeting_code is_entry set_by sets_up_to grid_entry
meets s h = by_side (λ s. meeting_by (is_entry (grid_entry s) (grid_width s)) (grid_size s) ≡ 0) refl refl refl refl refl s h

pub equal : (s : ℕ) → side_listed s ≡ true → (n : ℕ) → SiteTo (grid_size s) n → count (is_entry (grid_entry s) (grid_width s) n) (grid_size s) ≡ grid_members s
unfolding all any count is_entry grid_entry
equal s h =
    each-taken (is_entry (grid_entry s) (grid_width s)) (grid_size s) (grid_members s)
    (by_side (λ s. each_takes (is_entry (grid_entry s) (grid_width s)) (grid_size s) (grid_members s) ≡ true) refl refl refl refl refl s h)
