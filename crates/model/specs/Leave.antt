-- Document 01, "One event": the leave.
use Rattle.std.specs.Prelude.{ℕ, zero, suc, ◌+◌, not, ◌&&◌, cond, List, [], ◌∷◌, ◌++◌, eqb}
use Rattle.rig.specs.declared.Desk.{Desk}
use Rattle.rig.specs.declared.Message.{Message}
use Rattle.rig.specs.declared.Mode.TheVariants.{Rest}
use Rattle.rig.specs.Messages.{reply, release}
use Rattle.model.specs.Desk.{Effect, effect, has, held_for, heir_for, with_mode, without_entries}

-- "with heir k, a reply (about j, number g + 1) to k, then a release (about k, number g) to j; without, a release (about 0,
-- number g) to j": what site s sends on for arbiter j, held with number g
unfoldable pub hand_on : ℕ → ℕ → ℕ → ℕ → List Message
hand_on s j k g = cond (eqb k 0) (release s j 0 g ∷ []) (reply s k j (g + 1) ∷ release s j k g ∷ [])

-- "For each member j ascending, held with number g": of the sites 1 to n
unfoldable pub hand_ons : Desk → ℕ → List Message
hand_ons d zero = []
hand_ons d (suc i) =
    let j = suc i in
    hand_ons d i ++ cond (has d j && not (eqb (held_for d j) 0)) (hand_on d.number j (heir_for d j) (held_for d j)) []

-- "All three entries of every member, held or not, are cleared. The site is at rest."
unfoldable pub left : Desk → Effect
left d = effect (with_mode (without_entries d) Rest) (hand_ons d d.size)
