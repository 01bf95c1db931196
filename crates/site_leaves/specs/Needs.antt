-- What a leave needs of its caller.
use Rattle.std.specs.Prelude.{ℕ, ◌+◌, ◌*◌, ◌≤◌, List, length}
use Rattle.rig.specs.declared.Desk.{Desk}
use Rattle.rig.specs.Limits.{site_limit, number_limit}
use Rattle.model.specs.Desk.{held_for}

-- no more sites than the limit, 1 more on a number held does not overflow, and room for two messages to each site behind the first n
pub record LeaveFits (d : Desk) (n : ℕ) (rows : List (List ℕ)) : Type 0 where
  pub size : d.size ≤ site_limit
  pub held : (j : ℕ) → 1 ≤ j → j ≤ site_limit → held_for d j ≤ number_limit
  pub room : n + 2 * site_limit ≤ length rows
