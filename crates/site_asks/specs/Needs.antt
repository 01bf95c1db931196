-- What an ask needs of its caller.
use Rattle.std.specs.Prelude.{ℕ, ◌+◌, ◌≤◌, List, length}
use Rattle.rig.specs.declared.Desk.{Desk}
use Rattle.rig.specs.Limits.{site_limit, number_limit}

-- no more sites than the limit, 1 more on the clock does not overflow, and room for a message to each site behind the first n
pub record AskFits (d : Desk) (n : ℕ) (rows : List (List ℕ)) : Type 0 where
  pub size : d.size ≤ site_limit
  pub clock : d.site.clock ≤ number_limit
  pub room : n + site_limit ≤ length rows
