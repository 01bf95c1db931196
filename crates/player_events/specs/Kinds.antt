-- How a printed line counts a site.
use Rattle.std.specs.Prelude.{Bool}
use Rattle.rig.specs.declared.Mode.{Mode}
use Rattle.rig.specs.declared.Mode.TheVariants.{Rest, Waiting, Inside}
use Rattle.model.specs.State.{is_resting, is_waiting, is_inside}

-- two modes are of one kind: rest, waiting or inside
abbrev pub same_kind : Mode → Mode → Bool
same_kind Rest n = is_resting n
same_kind (Waiting s f) n = is_waiting n
same_kind Inside n = is_inside n
