-- Rows are messages: what rows made of messages say, and what a list with its end cleared says.
use Prim.Native.Nat.{ℕ, zero, suc, ◌+◌, ◌-◌, ◌≤◌}
use mathlib.Core.Path.{◌≡◌, refl, ap, ◌∙◌}
use mathlib.Core.List.{List, [], ◌∷◌, ◌++◌, map, map-append}
use native.Mathlib.Omega.{arith}
use lib.ListN.{length, take, drop, set, replicate, length-map}
use lib.Seq.{length-take-le, drop-set-lt}
use Rattle.rig.specs.declared.Message.{Message}
use Rattle.rig.specs.Limits.{message_limit}
use Rattle.model.specs.Event.{padded, blank_message}
use Rattle.list_rows.specs.Rows.{row_of, message_of, zero_row, cleared}

pub messages-of-rows : (ms : List Message) → map message_of (map row_of ms) ≡ ms
messages-of-rows [] = refl
messages-of-rows (m ∷ ms) = ap (λ r. m ∷ r) (messages-of-rows ms)

blank-messages : (n : ℕ) → map message_of (replicate n zero_row) ≡ replicate n blank_message
blank-messages zero = refl
blank-messages (suc n) = ap (λ r. blank_message ∷ r) (blank-messages n)

-- all but the first n cleared, a full list says the first n, padded
pub cleared-padded : (n : ℕ) (rows : List (List ℕ)) → length rows ≡ message_limit → n ≤ length rows → map message_of (cleared n rows) ≡ padded (map message_of (take n rows))
unfolding padded
cleared-padded n rows full h =
    let e : length (map message_of (take n rows)) ≡ n = length-map (take n rows) message_of ∙ length-take-le n rows h in
    map-append message_of (take n rows) (replicate (length rows - n) zero_row)
    ∙ ap (λ r. map message_of (take n rows) ++ r) (blank-messages (length rows - n) ∙ rw (full, e))

-- a row stored changes none behind it
pub behind-stored : (rows : List (List ℕ)) (n : ℕ) (r : List ℕ) → drop (n + 1) (set rows n r) ≡ drop (n + 1) rows
behind-stored rows n r = drop-set-lt (n + 1) rows n r (omega arith)
