-- The numbers of rows are those of their messages.
use Prim.Native.Nat.{ℕ}
use mathlib.Core.Path.{◌≡◌, refl, ap}
use mathlib.Core.Bool.{◌&&◌}
use mathlib.Core.List.{List, [], ◌∷◌, map}
use lib.Dec.{leb}
use Rattle.std.specs.List.{list_all}
use Rattle.model.specs.Event.{numbers_up_to}
use Rattle.list_rows.specs.Rows.{message_of}

pub numbers_of_rows : (limit : ℕ) (rows : List (List ℕ)) → numbers_up_to limit (map message_of rows) ≡ list_all (λ r. leb (message_of r).number limit) rows
unfolding numbers_up_to
numbers_of_rows limit [] = refl
numbers_of_rows limit (r ∷ rows) = ap (λ b. leb (message_of r).number limit && b) (numbers_of_rows limit rows)
