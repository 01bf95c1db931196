-- The lines of the sites 1 to n and those of the messages, put one by one.
use Prim.Native.Nat.{ℕ, zero, suc, ◌≤◌, ◌<◌}
use mathlib.Core.List.{List, [], map, map-append}
use mathlib.Core.Path.{◌≡◌, refl}
use native.Mathlib.Omega.{arith}
use lib.Dec.{eqb}
use lib.ListN.{length, take}
use lib.Seq.{take-suc}
use borrow.Author.Tests.{eqb-true, eqb-false}
use Rattle.basics.proofs.Basics.{by_bool}
use Rattle.basics.proofs.Lists.{take-map}
use Rattle.model.specs.Tables.{at}
use Rattle.list_rows.specs.Rows.{message_of}
use Rattle.save_lines.specs.Lines.{Field, fields_text}
use Rattle.save_text.specs.Text.{each_up_to, message_field}
use Rattle.save_text.proofs.Lengths.{fields-length}
use Rattle.save_putting.specs.Puts.{Fits, Puts}
use Rattle.save_putting.proofs.Puts.{fits-rest, puts-more}
use Rattle.save_writing.specs.Lines.{message_lines}

-- The fields of the sites 1 to n, of which those of the first i are put.

module _ (f : ℕ → List Field) where
  each_part : (i n : ℕ) → i ≤ n → length (fields_text (each_up_to f i)) ≤ length (fields_text (each_up_to f n))
  unfolding each_up_to
  each_part i zero h = let z : i ≡ 0 = omega arith in rw z (omega arith)
  each_part i (suc n) h =
      by_bool (eqb i (suc n))
      (λ e. let z = eqb-true i (suc n) e in rw z (omega arith))
      (λ e. let z = eqb-false i (suc n) e in omega (arith, each_part i n (omega arith), fields-length (each_up_to f n) (f (suc n))))

  module _ {p : ℕ} {page : List ℕ} where
    pub each_none : Puts (each_up_to f 0) p page page p
    unfolding each_up_to fields_text
    each_none = record { wrote = record { behind = omega arith; stored = refl } }

    pub each_fits : (i n : ℕ) {mid : List ℕ} {next : ℕ} → i < n
        → Fits (each_up_to f n) p page → Puts (each_up_to f i) p page mid next → Fits (f (suc i)) next mid
    unfolding each_up_to
    each_fits i n h fits w = fits-rest (each_up_to f i) (f (suc i)) (record { room = omega (arith, each_part (suc i) n (omega arith), fits.room) }) w

    pub each_more : (i : ℕ) {mid after : List ℕ} {next r : ℕ}
        → Puts (each_up_to f i) p page mid next → Puts (f (suc i)) next mid after r → Puts (each_up_to f (suc i)) p page after r
    unfolding each_up_to
    each_more i a b = puts-more (each_up_to f i) (f (suc i)) a b

-- The messages under way, one by one.

messages-up-to : (rows : List (List ℕ)) (n : ℕ) → n ≤ length rows → each_up_to (message_lines rows) n ≡ map message_field (map message_of (take n rows))
unfolding each_up_to at
messages-up-to rows zero h = refl
messages-up-to rows (suc n) h = rw (messages-up-to rows n (omega arith), take-suc rows n [] (omega arith), map-append, map-append)

module _ (rows : List (List ℕ)) (n : ℕ) (h : n ≤ length rows) where
  each-message : each_up_to (message_lines rows) n ≡ map message_field (take n (map message_of rows))
  each-message = rw take-map (messages-up-to rows n h)

  pub messages-fit : {p : ℕ} {page : List ℕ}
      → Fits (map message_field (take n (map message_of rows))) p page → Fits (each_up_to (message_lines rows) n) p page
  messages-fit f = rw each-message f

  pub messages-put : {p r : ℕ} {page after : List ℕ}
      → Puts (each_up_to (message_lines rows) n) p page after r → Puts (map message_field (take n (map message_of rows))) p page after r
  messages-put w = rw each-message at w
