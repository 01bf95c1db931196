-- The test of a stored state, with its list in rows.
use Prim.Native.Nat.{ℕ, ◌≤◌}
use mathlib.Core.Path.{◌≡◌, refl, ap}
use mathlib.Core.Bool.{◌&&◌}
use mathlib.Core.List.{List, [], ◌∷◌, map}
use lib.ListN.{take}
use borrow.Author.Tests.{le-leb}
use Rattle.std.specs.List.{list_all, take-map}
use Rattle.rig.specs.declared.Rig.{Rig}
use Rattle.rig.specs.Limits.{message_limit}
use Rattle.model.specs.State.{tables}
use Rattle.model.specs.Shape.{tables_shaped, message_shaped, messages_shaped, well_shaped}
use Rattle.list_rows.specs.Rows.{message_of}
use Rattle.list_rows.specs.State.{stored}

messages-of-rows : (n : ℕ) (sets : List ℕ) (rows : List (List ℕ)) → messages_shaped n sets (map message_of rows) ≡ list_all (λ r. message_shaped n sets (message_of r)) rows
unfolding messages_shaped
messages-of-rows n sets [] = refl
messages-of-rows n sets (r ∷ rows) = ap (λ b. message_shaped n sets (message_of r) && b) (messages-of-rows n sets rows)

pub well_shaped_rows : (g : Rig) (ts : List (List (List ℕ))) (rows : List (List ℕ)) (n : ℕ) → n ≤ message_limit
    → well_shaped (stored g ts rows n) ≡ tables_shaped (tables g ts) && list_all (λ r. message_shaped g.size g.sets (message_of r)) (take n rows)
unfolding well_shaped
well_shaped_rows g ts rows n h =
    rw (le-leb n message_limit h, take-map) (ap (λ b. tables_shaped (tables g ts) && b) (messages-of-rows g.size g.sets (take n rows)))
