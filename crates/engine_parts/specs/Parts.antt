-- The parts of an event on a lent list.
use Rattle.std.specs.Prelude.{ℕ, not, cond, eqb, ltb}
use Rattle.rig.specs.Limits.{message_limit}
use Rattle.list_search.specs.declared.Found.{Found}
use Rattle.list_search.specs.declared.Found.TheVariants.{At, Nowhere}

-- the code that the list's length or its count gets: 13, 10, or 0 where both pass
abbrev pub list_code : ℕ → ℕ → ℕ
list_code count len = cond (not (eqb len message_limit)) 13 (cond (ltb message_limit count) 10 0)

-- how many messages are read: none where the list is refused with that code
abbrev pub read_of : ℕ → ℕ → ℕ
read_of code count = cond (not (eqb code 0)) 0 count

-- where the message was found, else behind the last one
abbrev pub place_found : ℕ → Found → ℕ
place_found count (At place) = place
place_found count Nowhere = count

-- the place from which an event changes the list: where its message was found, behind the last message where it takes none off, and
-- the list's end where it is refused
abbrev pub changed_from : ℕ → Found → ℕ → ℕ → ℕ
changed_from code found count len = cond (not (eqb code 0)) len (place_found count found)
