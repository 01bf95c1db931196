-- What a call that joins a line answers.
use Rattle.std.specs.Prelude.{◌+◌, ◌≤◌, false, ◌≡◌, length, take}
use Rattle.player_grammar.specs.Grammar.{line_limit}
use Rattle.player_cuts.specs.declared.Joined.{Joined}
use Rattle.player_cuts.specs.Joins.{Joins}

-- the line is in the first `held` bytes of the array, and nothing is said of those behind them; one that cannot be judged yet has at most
-- `line_limit` bytes
pub record JoinedTo (j : Joins) (r : Joined) : Type 0 where
  pub line : take r.held r.line ≡ j.line
  pub taken : r.from ≡ j.taken
  pub whole : r.whole ≡ j.whole
  pub long : length r.line ≡ line_limit + 1
  pub room : r.held ≤ line_limit + 1
  pub short : r.whole ≡ false → r.held ≤ line_limit
