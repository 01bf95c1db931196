-- A field's line read: its bytes as one line, and its numbers.
use Prim.Native.Nat.{ℕ, zero, suc, ◌+◌, ◌-◌, ◌*◌, ◌≤◌, ◌<◌}
use mathlib.Core.Bool.{Bool, true, false, not, ◌&&◌}
use mathlib.Core.List.{List, [], ◌∷◌, ◌++◌, map, append-nil}
use mathlib.Core.Path.{◌≡◌, refl, sym, ap, ◌∙◌}
use native.Mathlib.Omega.{arith}
use borrow.Author.Tests.{le-leb, leb-true, ne_eqb, not-true}
use lib.Dec.{eqb, leb}
use lib.ListN.{length, get_or, set, replicate, length-append, length-set}
use lib.Seq.{set-get_or, set-set, get_or-set_same, set-append_seam, get_or-append_seam, append_snoc}
use Rattle.basics.specs.Helpers.{All}
use Rattle.basics.proofs.Basics.{and_split}
use Rattle.basics.proofs.Lists.{all_append}
use Rattle.rig.specs.Limits.{site_limit, number_limit}
use Rattle.player_bytes.specs.Decimal.{decimal}
use Rattle.player_numbers.specs.Numbers.{is_digit, all_digits, value}
use Rattle.plan_lines.specs.Lines.{list_text}
use Rattle.plan_read_back.proofs.Numbers.{Lacks, decimal-digits, digits_value}
use Rattle.plan_read_back.proofs.Lines.{list-one-line}
use Rattle.save_lines.specs.Lines.{Field, field_text, fields_text, in_front, lines_in, grown, numbers_from, numbers_in}

-- a byte of a key: no byte 10, no comma, no digit
abbrev pub plain_byte : ℕ → Bool
plain_byte b = not (eqb b 10) && (not (eqb b 44) && not (is_digit b))

unfoldable pub plain_bytes : List ℕ → Bool
plain_bytes [] = true
plain_bytes (b ∷ bs) = plain_byte b && plain_bytes bs

abbrev pub PlainWord : List ℕ → Type 0
PlainWord w = plain_bytes w ≡ true

-- a field of a state: its word is plain, its numbers are within the limit and at most one for each site
pub record PlainField (f : Field) : Type 0 where
  pub plain : PlainWord f.word
  pub small : All (λ n. n ≤ number_limit) f.numbers
  pub few : length f.numbers ≤ site_limit

-- what a plain byte is not
plain-byte : (b : ℕ) → plain_byte b ≡ true → (eqb b 10 ≡ false) × (eqb b 44 ≡ false) × (is_digit b ≡ false)
plain-byte b h =
    let p = and_split (not (eqb b 10)) (not (eqb b 44) && not (is_digit b)) h in
    let q = and_split (not (eqb b 44)) (not (is_digit b)) p.1 in
    (not-true (eqb b 10) p.0, not-true (eqb b 44) q.0, not-true (is_digit b) q.1)

plain-one-line : (w : List ℕ) → PlainWord w → Lacks 10 w
unfolding plain_bytes All
plain-one-line [] h = tt
plain-one-line (b ∷ w) h = let p = and_split (plain_byte b) (plain_bytes w) h in ((plain-byte b p.0).0, plain-one-line w p.1)

-- The lines of a text of fields are the fields' bytes.
abbrev pub line_of : Field → List ℕ
line_of f = f.word ++ list_text f.numbers

pub line-apart : (l rest : List ℕ) → Lacks 10 l → lines_in (l ++ (10 ∷ rest)) ≡ l ∷ lines_in rest
unfolding lines_in in_front All
line-apart [] rest h = refl
line-apart (b ∷ l) rest h = rw (h.0, line-apart l rest h.1)

pub lines-of-fields : (fs : List Field) → All PlainField fs → lines_in (fields_text fs) ≡ map line_of fs
unfolding lines_in fields_text field_text All
lines-of-fields [] h = refl
lines-of-fields (f ∷ fs) h =
    let one = all_append _ f.word (list_text f.numbers) (plain-one-line f.word h.0.plain) (list-one-line f.numbers) in
    rw append_snoc (line-apart (line_of f) (fields_text fs) one ∙ rw (lines-of-fields fs h.1))

-- The numbers of a line. A plain word is passed over.
word-passed : (ns : List ℕ) (i : ℕ) (w rest : List ℕ) → PlainWord w → numbers_from ns i (w ++ rest) ≡ numbers_from ns i rest
unfolding numbers_from plain_bytes
word-passed ns i [] rest h = refl
word-passed ns i (b ∷ w) rest h =
    let p = and_split (plain_byte b) (plain_bytes w) h in
    let q = plain-byte b p.0 in
    rw (q.1, q.2) (word-passed ns i w rest p.1)

-- a number grows digit by digit, and what is within the limit in the end was so all along
value_grows : (n : ℕ) (ds : List ℕ) → n ≤ value n ds
unfolding value
value_grows n [] = omega arith
value_grows n (d ∷ ds) = omega (arith, value_grows (n * 10 + (d - 48)) ds)

digit-no-comma : (d : ℕ) → is_digit d ≡ true → eqb d 44 ≡ false
digit-no-comma d h = let l = leb-true 48 d (and_split (leb 48 d) (leb d 57) h).0 in ne_eqb d 44 (λ e. omega arith)

digits-put :
    (ns : List ℕ) (i : ℕ) (ds rest : List ℕ) → i < length ns → all_digits ds ≡ true → value (get_or ns i 0) ds ≤ number_limit
    → numbers_from ns i (ds ++ rest) ≡ numbers_from (set ns i (value (get_or ns i 0) ds)) i rest
unfolding numbers_from all_digits value grown
digits-put ns i [] rest l h s = rw (set-get_or ns i 0)
digits-put ns i (d ∷ ds) rest l h s =
    let p = and_split (is_digit d) (all_digits ds) h in
    let n = get_or ns i 0 * 10 + (d - 48) in
    let within : get_or ns i 0 ≤ number_limit = omega (arith, value_grows n ds) in
    let same = get_or-set_same ns i n 0 l in
    let ih = digits-put (set ns i n) i ds rest (rw (length-set ns i n) l) p.1 (rw same s) in
    rw (digit-no-comma d p.0, p.0, le-leb (get_or ns i 0) number_limit within)
    (ih ∙ rw (same, set-set ns i n (value n ds)))

-- a number behind others, in the place of a 0
number_put :
    (done zeros rest : List ℕ) (n : ℕ) → n ≤ number_limit
    → numbers_from (done ++ 0 ∷ zeros) (length done) (decimal n ++ rest) ≡ numbers_from (done ++ n ∷ zeros) (length done) rest
unfolding decimal
number_put done zeros rest n h =
    let v = digits_value 20 n (omega arith) in
    let z = get_or-append_seam done 0 zeros 0 in
    let l : length done < length (done ++ 0 ∷ zeros) = simp length-append (omega arith) in
    digits-put (done ++ 0 ∷ zeros) (length done) (decimal n) rest l (decimal-digits n) (rw (z, v) h)
    ∙ rw (z, v, set-append_seam done 0 zeros n)

list_put :
    (done : List ℕ) (n : ℕ) (ns : List ℕ) (m : ℕ) → All (λ k. k ≤ number_limit) (n ∷ ns) → length ns ≤ m
    → numbers_from (done ++ replicate (suc m) 0) (length done) (list_text (n ∷ ns)) ≡ done ++ (n ∷ ns ++ replicate (m - length ns) 0)
unfolding list_text numbers_from All
list_put done n [] m h l =
    let e : m - 0 ≡ m = omega arith in
    rw e (ap (numbers_from (done ++ replicate (suc m) 0) (length done)) (sym (append-nil (decimal n))) ∙ number_put done (replicate m 0) [] n h.0)
list_put done n (k ∷ ns) zero h l = absurd (omega arith)
list_put done n (k ∷ ns) (suc m) h l =
    let place : length (done ++ n ∷ []) ≡ suc (length done) = simp length-append (omega arith) in
    let e : suc m - suc (length ns) ≡ m - length ns = omega arith in
    let ih = list_put (done ++ n ∷ []) k ns m h.1 (omega arith) in
    rw e (number_put done (replicate (suc m) 0) (44 ∷ list_text (k ∷ ns)) n h.0 ∙ simp append_snoc at (rw place at ih))

numbers-put : (ns : List ℕ) → All (λ n. n ≤ number_limit) ns → length ns ≤ site_limit
    → numbers_from (replicate site_limit 0) 0 (list_text ns) ≡ ns ++ replicate (site_limit - length ns) 0
unfolding list_text numbers_from
numbers-put [] h l = refl
numbers-put (n ∷ ns) h l =
    let e : site_limit - suc (length ns) ≡ (site_limit - 1) - length ns = omega arith in
    rw e (list_put [] n ns (site_limit - 1) h (omega arith))

pub numbers-of-field : (f : Field) → PlainField f → numbers_in (line_of f) ≡ f.numbers ++ replicate (site_limit - length f.numbers) 0
unfolding numbers_in
numbers-of-field f p = word-passed (replicate site_limit 0) 0 f.word (list_text f.numbers) p.plain ∙ numbers-put f.numbers p.small p.few
