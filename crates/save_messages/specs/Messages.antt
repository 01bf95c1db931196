-- Request 2.2: a message as numbers, and back; request 2.3: a fail's number.
use Rattle.std.specs.Prelude.{ℕ, Bool, not, ◌||◌, cond, List, [], ◌∷◌, ◌++◌, eqb}
use Rattle.rig.specs.declared.Message.{Message}
use Rattle.rig.specs.Messages.{REPLY, RELEASE, TRANSFER}
use Rattle.save_fields.specs.Fields.{nth}

-- A message: kind, from, to; `about` in a reply, a release and a transfer; the number, but not where it is 0, as in a fail of an earlier version.
unfoldable pub has_about : ℕ → Bool
has_about kind = eqb kind REPLY || (eqb kind RELEASE || eqb kind TRANSFER)

-- with its number or without
unfoldable pub numbers_with : Message → Bool → List ℕ
numbers_with m numbered = m.kind ∷ m.from ∷ m.to ∷ (cond (has_about m.kind) (m.about ∷ []) [] ++ cond numbered (m.number ∷ []) [])

unfoldable pub message_numbers : Message → List ℕ
message_numbers m = numbers_with m (not (eqb m.number 0))

unfoldable pub message_from : List ℕ → Message
message_from ns =
    let kind = nth ns 0 in
    record {
      kind = kind;
      from = nth ns 1;
      to = nth ns 2;
      about = cond (has_about kind) (nth ns 3) 0;
      number = cond (has_about kind) (nth ns 4) (nth ns 3);
    }
