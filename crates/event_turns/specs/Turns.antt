-- An ask and a leave of the desk's own site, and the outcome of each.
use Rattle.std.specs.Prelude.{ℕ, List}
use Rattle.rig.specs.declared.Desk.{Desk}
use Rattle.rig.specs.declared.Message.{Message}
use Rattle.rig.specs.declared.Event.TheVariants.{Ask, Leave}
use Rattle.model.specs.Event.{Attempt, Outcome, attempt, judged}

-- "5 for an ask by a site not at rest"
abbrev pub ask_attempt : Desk → List Message → Attempt
ask_attempt d ms = attempt d ms (Ask d.number)

abbrev pub ask_outcome : ℕ → Desk → List Message → Outcome
ask_outcome accepted d ms = judged accepted d ms (ask_attempt d ms)

-- "6 for a leave by one not inside"
abbrev pub leave_attempt : Desk → List Message → Attempt
leave_attempt d ms = attempt d ms (Leave d.number)

abbrev pub leave_outcome : ℕ → Desk → List Message → Outcome
leave_outcome accepted d ms = judged accepted d ms (leave_attempt d ms)
