-- "Sites are numbered level by level, row by row": three rows of two bays on each level.
use mathlib.Core.Path.{◌≡◌, refl}
use Rattle.family_levels.specs.Levels.{levels_site}

-- the second bay of the first row, the first bay of the second row, the first site of the second level
next-bay : levels_site 3 2 1 2 1 ≡ 2
next-bay = refl

next_row : levels_site 3 2 2 1 1 ≡ 3
next_row = refl

next_level : levels_site 3 2 1 1 2 ≡ 7
next_level = refl
