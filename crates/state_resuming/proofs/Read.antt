-- What a text says fits the events: it is well shaped, its list is 1,024 entries long, and the numbers held are in rows of 31.
use Prim.Native.Nat.{ℕ, zero, suc, ◌-◌, ◌≤◌, ◌<◌}
use mathlib.Core.Bool.{Bool, true, not, cond}
use mathlib.Core.List.{List, [], ◌∷◌, ◌++◌}
use mathlib.Core.Logic.{◌≢◌}
use mathlib.Core.Option.{Option, none, some, none-ne-some, some-injective}
use mathlib.Core.Path.{◌≡◌, refl}
use native.Mathlib.Omega.{arith}
use lib.ListN.{length, get_or, replicate, length-append, length-replicate}
use Rattle.basics.specs.Helpers.{All}
use Rattle.basics.proofs.Basics.{by_bool}
use Rattle.basics.proofs.Lists.{all_snoc, all_append}
use Rattle.rig.specs.Limits.{site_limit, message_limit, blank_row, SiteNumber}
use Rattle.model.specs.Tables.{at}
use Rattle.model.specs.State.{Stored}
use Rattle.model.specs.Shape.{well_shaped}
use Rattle.model.specs.Event.{padded}
use Rattle.model.proofs.Shaped.{shaped}
use Rattle.model_shaped.specs.Kept.{all_granted, HeldRows}
use Rattle.player_state.specs.State.{first_playing}
use Rattle.player_text.specs.Calls.{FitsEvents}
use Rattle.save_entries.specs.Entries.{row_up_to, row_from}
use Rattle.save_lines.specs.Lines.{lines_in}
use Rattle.save_rows.specs.Rows.{none_read, read_code}
use Rattle.save_text.specs.Text.{this_spelling}
use Rattle.save_text.specs.Claims.{WrittenBack}
use Rattle.save_text.specs.Reading.{up_to, array_of, own_row, tables_of, state_from, is_text_of, accepts, read_text}
use Rattle.save_text.proofs.Arrays.{upto-length}
use Rattle.save_text.proofs.ReadBack.{written_back}
use Rattle.state_resuming.specs.declared.Resumption.{Resumption}
use Rattle.state_resuming.specs.Resuming.{Resumes}

-- the state that a text says is the one that its lines give
given_by : (text : List ℕ) (s : Stored) → read_text text ≡ some s → state_from (lines_in text) ≡ s
unfolding read_text accepts
given_by text s e =
    let a = state_from (lines_in text) in
    by_bool (is_text_of this_spelling text a) (λ b. some-injective a s (rw b at e)) (λ b. absurd (none-ne-some s (rw b at e)))

-- the rows of an array
module _ {A : Type 0} (P : A → Type 0) where
  all-up-to : (f : ℕ → A) (n : ℕ) → ((k : ℕ) → P (f k)) → All P (up_to f n)
  unfolding All up_to
  all-up-to f zero h = tt
  all-up-to f (suc n) h = all_snoc P (up_to f n) (f (suc n)) (all-up-to f n h) (h (suc n))

  all-copies : (n : ℕ) (v : A) → P v → All P (replicate n v)
  unfolding All
  all-copies zero v h = tt
  all-copies (suc n) v h = (h, all-copies n v h)

  all-inside : (xs : List A) (d : A) (i : ℕ) → All P xs → i < length xs → P (get_or xs i d)
  unfolding All
  all-inside [] d i h l = absurd (omega arith)
  all-inside (x ∷ xs) d zero h l = h.0
  all-inside (x ∷ xs) d (suc i) h l = all-inside xs d i h.1 (omega arith)

  all-array : (blank d : A) (f : ℕ → A) (n k : ℕ) → n ≤ site_limit → P blank → ((i : ℕ) → P (f i)) → SiteNumber k → P (at d (array_of blank f n) k)
  unfolding array_of at
  all-array blank d f n zero few b h s = absurd (omega (arith, s.low))
  all-array blank d f n (suc i) few b h s =
      all-inside (up_to f n ++ replicate (site_limit - n) blank) d i
      (all_append P (up_to f n) (replicate (site_limit - n) blank) (all-up-to f n h) (all-copies (site_limit - n) blank b))
      (rw (length-append (up_to f n) (replicate (site_limit - n) blank), upto-length f n, length-replicate (site_limit - n) blank) (omega (arith, s.high)))

row-length : (p : ℕ → Bool) (ns : List ℕ) (n : ℕ) → length (row_up_to p ns n) ≡ n
unfolding row_up_to
row-length p ns zero = refl
row-length p ns (suc n) = let l = row-length p ns n in simp length-append (omega arith)

held_rows : (ls : List (List ℕ)) → well_shaped (state_from ls) ≡ true → HeldRows (state_from ls).tables
unfolding state_from tables_of own_row row_from
held_rows ls w k s = all-array (λ (row : List ℕ). length row ≡ site_limit) blank_row [] _ _ k (shaped (state_from ls) w).sets.high refl (λ i. row-length _ _ site_limit) s

list_length : (ls : List (List ℕ)) → well_shaped (state_from ls) ≡ true → length (state_from ls).list ≡ message_limit
unfolding state_from padded
list_length ls w = simp (length-append, length-replicate) (omega (arith, (shaped (state_from ls) w).few))

pub fits-events : (text : List ℕ) (s : Stored) → read_text text ≡ some s → FitsEvents (not (all_granted s.tables.rig)) s
unfolding WrittenBack
fits-events text s e =
    let g = given_by text s e in
    let w = (written_back text s e).0 in
    let v : well_shaped (state_from (lines_in text)) ≡ true = rw g w in
    let long = rw g at (list_length (lines_in text) v) in
    by_bool (all_granted s.tables.rig)
    (λ a. rw a (record { shaped = w; granted = a; rows = rw g at (held_rows (lines_in text) v); long = long }))
    (λ a. rw a (long, (shaped s w).few))

-- the code of a refusal is 14, and the text says nothing
none_said : (o : Option Stored) (r : Resumption) → r.code ≡ cond (none_read o) 14 0 → r.code ≢ 0 → r.playing ≡ first_playing → Resumes o r
none_said none r e n p = (e, p)
none_said (some s) r e n p = absurd (n e)

pub says_nothing : (text : List ℕ) (r : Resumption) → r.code ≡ read_code message_limit text → r.code ≢ 0 → r.playing ≡ first_playing → Resumes (read_text text) r
unfolding read_code
says_nothing text r e n p = none_said (read_text text) r e n p
