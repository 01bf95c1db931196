-- The sets of each listed family of levels meet, and are equally large.
use Prim.Native.Nat.{ℕ}
use mathlib.Core.Path.{◌≡◌}
use mathlib.Core.Bool.{true}
use Rattle.basics.specs.Helpers.{count}
use Rattle.family_sets.specs.Meeting.{SiteTo}
use Rattle.family_sets.specs.Rule.{meeting_by}
use Rattle.family_sets.proofs.Rule.{rule-meets}
use Rattle.family_levels.specs.Levels.{sides_listed, levels_size, levels_members, in_levels}
use Rattle.family_levels.proofs.Sides.{sides, size_low}
use Rattle.family_levels.proofs.Meeting.{levels-meet}
use Rattle.family_levels.proofs.Equal.{levels-equal}

pub meets : (a b c : ℕ) → sides_listed a b c ≡ true → meeting_by (in_levels a b c) (levels_size a b c) ≡ 0
meets a b c h =
    let s = sides a b c h in
    rule-meets (in_levels a b c) (levels_size a b c) (size_low a b c s, s.most) (levels-meet a b c s.rows s.bays s.levels)

pub equal : (a b c : ℕ) → sides_listed a b c ≡ true → (n : ℕ) → SiteTo (levels_size a b c) n → count (in_levels a b c n) (levels_size a b c) ≡ levels_members a b c
equal a b c h = let s = sides a b c h in levels-equal a b c s.rows s.bays s.levels
