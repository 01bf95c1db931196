-- What a delivery needs of its caller.
use Rattle.std.specs.Prelude.{ℕ, ◌+◌, ◌≤◌, List, length}
use Rattle.rig.specs.declared.Desk.{Desk}
use Rattle.rig.specs.declared.Message.{Message}
use Rattle.rig.specs.Limits.{site_limit, number_limit}
use Rattle.rig.specs.Messages.{NamesSites}

-- no more sites than the limit, a grant number in its range, a message that names sites, and room for a message to each site behind the
-- first n
pub record Fits (d : Desk) (m : Message) (n : ℕ) (rows : List (List ℕ)) : Type 0 where
  pub size : d.size ≤ site_limit
  pub grant : d.arbiter.grant ≤ number_limit
  pub names : NamesSites m
  pub room : n + site_limit ≤ length rows
