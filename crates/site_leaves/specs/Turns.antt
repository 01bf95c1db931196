-- What one turn of the leave's loop sends.
use Rattle.std.specs.Prelude.{ℕ, cond, List, [], eqb}
use Rattle.rig.specs.declared.Message.{Message}
use Rattle.model.specs.Leave.{hand_on}

-- what site s sends on for arbiter j with heir k and number g, if j is held
abbrev pub hand_on_if : ℕ → ℕ → ℕ → ℕ → List Message
hand_on_if s j k g = cond (eqb g 0) [] (hand_on s j k g)
