-- Where no fail has a number, the text is the one of the version before.
use Prim.Native.Nat.{ℕ}
use mathlib.Core.Bool.{true, not}
use mathlib.Core.List.{List, [], ◌∷◌, map}
use mathlib.Core.Path.{◌≡◌, refl, sym, ap}
use lib.Dec.{eqb}
use lib.ListN.{drop, get_or}
use borrow.Author.Tests.{eq-eqb}
use Rattle.basics.proofs.Basics.{by_bool, and_split}
use Rattle.rig.specs.declared.Message.{Message}
use Rattle.rig.specs.Messages.{FAIL}
use Rattle.model.specs.State.{under_way, size_of, sets_of}
use Rattle.model.specs.Shape.{message_shaped, messages_shaped}
use Rattle.model.specs.Losses.{unnumbered, lost, lost_all}
use Rattle.model.proofs.Shaped.{shaped}
use Rattle.save_lines.specs.Lines.{field}
use Rattle.save_messages.specs.Messages.{numbers_with, message_numbers}
use Rattle.save_messages.proofs.Messages.{numbered}
use Rattle.save_text.specs.Text.{message_word, fields_in, text_in, message_field, this_spelling, text_of, first_message_field, first_spelling}
use Rattle.save_text.specs.Claims.{FirstSpelled}

module _ (n : ℕ) (sets : List ℕ) where
  -- where fails have lost their numbers, a message is numbered 0 just where it is a fail
  same_test : (m : Message) → message_shaped n sets m ≡ true → unnumbered m ≡ m → eqb m.kind FAIL ≡ eqb m.number 0
  unfolding unnumbered
  same_test m s e =
      by_bool (eqb m.kind FAIL)
      (λ f. let z : 0 ≡ m.number = ap (λ x. x.number) (rw f at e) in rw (f, eq-eqb m.number 0 (sym z)))
      (λ f. rw (f, numbered n sets m s f))

  same-field : (m : Message) → message_shaped n sets m ≡ true → unnumbered m ≡ m → first_message_field m ≡ message_field m
  unfolding first_message_field message_field message_numbers
  same-field m s e = ap (λ b. field message_word (numbers_with m (not b))) (same_test m s e)

  same-fields : (ms : List Message) → messages_shaped n sets ms ≡ true → lost_all ms ≡ ms → map first_message_field ms ≡ map message_field ms
  unfolding messages_shaped lost
  same-fields [] s e = refl
  same-fields (m ∷ ms) s e =
      let p = and_split (message_shaped n sets m) (messages_shaped n sets ms) s in
      rw (same-field m p.0 (ap (λ xs. get_or xs 0 m) e), same-fields ms p.1 (ap (drop 1) e))

pub first-spelled : FirstSpelled
unfolding FirstSpelled text_of text_in fields_in this_spelling first_spelling
first-spelled s w e = rw (same-fields (size_of s.tables) (sets_of s.tables) (under_way s) (shaped s w).messages e)
