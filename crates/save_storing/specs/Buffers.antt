-- Writing a state whose list is in rows, once the list's length has been judged.
use Rattle.std.specs.Prelude.{ℕ, not, cond, List, eqb}
use Rattle.model.specs.State.{Stored}
use Rattle.model.specs.Shape.{well_shaped}
use Rattle.save_text.specs.Text.{text_of}
use Rattle.save_text.specs.Calls.{Written, refused_to, stored_in}
use Rattle.save_storing.specs.declared.Saved.{Saved}

-- what a call of writing answers, with the buffer that it was lent
abbrev pub in_buffer : Saved → List ℕ → Written
in_buffer r buffer = record { code = r.code; size = r.length; buffer = buffer }

-- "13 first": a state whose list got a code is refused with it; then 10, then 15
unfoldable pub written_with : ℕ → Stored → List ℕ → Written
written_with code s buffer =
    cond (not (eqb code 0)) (refused_to buffer code)
    (cond (not (well_shaped s)) (refused_to buffer 10)
    (stored_in buffer (text_of s)))
