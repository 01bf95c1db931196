-- The player before its first line fits its tables and its list of zeros.
use mathlib.Core.Path.{refl}
use native.Mathlib.Omega.{arith}
use Rattle.player_state.specs.State.{PlayingFits, first_playing}

pub begun : PlayingFits first_playing
begun = record { fits = record { fits = record { none_stored = refl; none_under_way = refl } }; room = omega arith }
