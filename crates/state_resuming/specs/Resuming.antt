-- A player that goes on from a saved text.
use Rattle.std.specs.Prelude.{[], ◌≡◌}
use Rattle.std.proofs.Math.Option.{Option, none, some}
use Rattle.model.specs.State.{Stored}
use Rattle.player_state.specs.State.{known, cut_line, first_playing, resumed}
use Rattle.state_resuming.specs.declared.Resumption.{Resumption}

-- by what the text says: nothing, and the code is 14; or a state, and the player goes on from it
abbrev pub Resumes : Option Stored → Resumption → Type 0
Resumes none r = (r.code ≡ 14) × (r.playing ≡ first_playing)
Resumes (some s) r = (r.code ≡ 0) × (known r.playing ≡ resumed s) × (cut_line r.playing ≡ [])
