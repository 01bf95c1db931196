-- Document 01, "One event": the ask.
use Rattle.std.specs.Prelude.{ℕ, zero, suc, ◌+◌, false, cond, List, [], ◌∷◌, ◌++◌}
use Rattle.rig.specs.declared.Desk.{Desk}
use Rattle.rig.specs.declared.Message.{Message}
use Rattle.rig.specs.declared.Mode.TheVariants.{Waiting}
use Rattle.rig.specs.Messages.{request}
use Rattle.model.specs.Desk.{Effect, effect, has, with_site, without_entries}

-- "requests go to its members, ascending": to those of the sites 1 to n
unfoldable pub requests : Desk → ℕ → ℕ → List Message
requests d seq zero = []
requests d seq (suc i) = requests d seq i ++ cond (has d (suc i)) (request d.number (suc i) seq ∷ []) []

-- "Ask. Clock and sequence number become clock + 1; failed, held, heirs and remembered inquires are cleared; the site waits;
-- requests go to its members, ascending."
unfoldable pub asked : Desk → Effect
asked d =
    let seq = d.site.clock + 1 in
    effect (with_site (without_entries d) (record { mode = Waiting seq false; clock = seq })) (requests d seq d.size)
