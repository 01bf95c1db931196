-- Lines of document 01's form and lines that are not, by calculation.
use Prim.Native.Nat.{ℕ}
use mathlib.Core.List.{[], ◌∷◌, ◌++◌}
use mathlib.Core.Path.{◌≡◌, refl}
use lib.ListN.{replicate}
use Rattle.player_numbers.specs.Numbers.{all_digits, no_leading_zero, value, number}
use Rattle.player_grammar.specs.Grammar.{longer, parts, before, all_numbers, numbers, ascends, site_bit, with_sites, set_line, one, move_line, sites_word, set_word, ask_word, leave_word, move_word, starts, form, event_form, meaning_of}
use Rattle.player_grammar.specs.declared.Line.TheVariants.{Sites, Set, Ask, Leave, Move}
use Rattle.std.specs.Prelude.{Some, None}

-- `sites=31`, `set=1,5,31`, `set=0`, `ask=999`, `leave=0`, `move=2,1`
well-formed :
    (meaning_of (sites_word ++ (51 ∷ 49 ∷ [])) ≡ Some (Sites 31))
    × (meaning_of (set_word ++ (49 ∷ 44 ∷ 53 ∷ 44 ∷ 51 ∷ 49 ∷ [])) ≡ Some (Set 0x40000011))
    × (meaning_of (set_word ++ (48 ∷ [])) ≡ Some (Set 0x8000000000000000))
    × (meaning_of (ask_word ++ (57 ∷ 57 ∷ 57 ∷ [])) ≡ Some (Ask 999))
    × (meaning_of (leave_word ++ (48 ∷ [])) ≡ Some (Leave 0))
    × (meaning_of (move_word ++ (50 ∷ 44 ∷ 49 ∷ [])) ≡ Some (Move 2 1))
unfolding meaning_of form event_form starts set_line ascends with_sites site_bit one move_line numbers all_numbers parts longer before number no_leading_zero all_digits value
well-formed = (refl, refl, refl, refl, refl, refl)

-- `sites=`, `sites=1,2`, `set=5,5`, `set=1,`, `ask=007`, `ask=1000`, `leave=1 `, `move=1`, nothing at all
malformed :
    (meaning_of sites_word ≡ None)
    × (meaning_of (sites_word ++ (49 ∷ 44 ∷ 50 ∷ [])) ≡ None)
    × (meaning_of (set_word ++ (53 ∷ 44 ∷ 53 ∷ [])) ≡ None)
    × (meaning_of (set_word ++ (49 ∷ 44 ∷ [])) ≡ None)
    × (meaning_of (ask_word ++ (48 ∷ 48 ∷ 55 ∷ [])) ≡ None)
    × (meaning_of (ask_word ++ (49 ∷ 48 ∷ 48 ∷ 48 ∷ [])) ≡ None)
    × (meaning_of (leave_word ++ (49 ∷ 32 ∷ [])) ≡ None)
    × (meaning_of (move_word ++ (49 ∷ [])) ≡ None)
    × (meaning_of [] ≡ None)
unfolding meaning_of form event_form starts set_line ascends with_sites site_bit one move_line numbers all_numbers parts longer before number no_leading_zero all_digits value
malformed = (refl, refl, refl, refl, refl, refl, refl, refl, refl)

-- 97 bytes
too_long : (b : ℕ) → meaning_of (replicate 97 b) ≡ None
unfolding meaning_of
too_long b = refl
