-- The player before its first line, lent tables and a list of zeros, knows what `start` says.
use mathlib.Core.Path.{◌≡◌, refl}
use Rattle.rig.specs.Limits.{blank_tables}
use Rattle.list_rows.specs.Rows.{zero_rows}
use Rattle.player_text.specs.Player.{start}
use Rattle.player_text.specs.Calls.{text, beginning}

pub begins-at-start : text beginning blank_tables (zero_rows) ≡ start
unfolding start
begins-at-start = refl
