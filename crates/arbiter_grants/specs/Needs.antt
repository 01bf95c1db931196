-- What the inner calls of this crate need of their caller.
use Rattle.std.specs.Prelude.{ℕ, ◌+◌, ◌^◌, ◌≤◌, ◌<◌, List, length}
use Rattle.rig.specs.declared.Desk.{Desk}
use Rattle.rig.specs.Limits.{site_limit}

-- no more sites than the limit, g grant numbers more fit the number's type, and the list has room for m messages behind the first n
pub record Room (d : Desk) (g m n : ℕ) (rows : List (List ℕ)) : Type 0 where
  pub size : d.size ≤ site_limit
  pub grants : d.arbiter.grant + g < 2 ^ 64
  pub room : n + m ≤ length rows
