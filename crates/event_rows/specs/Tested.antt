-- An event, once its list has been judged.
use Rattle.std.specs.Prelude.{ℕ, not, cond, eqb}
use Rattle.rig.specs.declared.Event.{Event}
use Rattle.model.specs.State.{Stored}
use Rattle.model.specs.Event.{Answer, answer, tested}

-- "13 first": an event whose list got a code is refused with it; where that is 0, the state is tested
unfoldable pub tested_with : ℕ → Stored → Event → Answer
tested_with code s e = cond (not (eqb code 0)) (answer code s) (tested s e)
