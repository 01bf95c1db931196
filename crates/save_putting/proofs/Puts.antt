-- Lines put one behind the other: what is left of the room, and what stands on the page.
use Prim.Native.Nat.{ℕ, ◌+◌, ◌≤◌}
use mathlib.Core.List.{List, [], ◌∷◌, ◌++◌, append-nil}
use mathlib.Core.Path.{◌≡◌, ap}
use native.Mathlib.Omega.{arith}
use lib.ListN.{length, length-append}
use lib.Seq.{length-sets, take-append_seam}
use Rattle.player_bytes.specs.Wrote.{Wrote}
use Rattle.player_bytes.proofs.Stores.{wrote-more}
use Rattle.save_lines.specs.Lines.{Field, field, field_text, fields_text}
use Rattle.save_fields.specs.declared.Value.{Value}
use Rattle.save_fields.specs.Values.{value_of}
use Rattle.save_text.proofs.Lengths.{fields-append, fields-length}
use Rattle.save_putting.specs.Puts.{Fits, Puts, field_of}

-- One line.

module _ {f : Field} {p : ℕ} {page : List ℕ} where
  pub line-room : Fits (f ∷ []) p page → p + length (field_text f) ≤ length page
  unfolding fields_text
  line-room h = rw append-nil at h.room

  pub line-puts : {after : List ℕ} {r : ℕ} → Wrote (field_text f) p page after r → Puts (f ∷ []) p page after r
  unfolding fields_text
  line-puts w = record { wrote = rw append-nil w }

-- the line of a value that has the numbers ns
module _ {word ns : List ℕ} {v : Value} (e : v ≡ value_of ns) where
  value-field : field_of word v ≡ field word ns
  value-field = rw e (ap (field word) (take-append_seam ns _))

  pub value-fits : {p : ℕ} {page : List ℕ} → Fits (field word ns ∷ []) p page → (v.count ≤ length v.numbers) × Fits (field_of word v ∷ []) p page
  value-fits h = (rw e (simp length-append (omega arith)), rw value-field h)

  pub value-puts : {p r : ℕ} {page after : List ℕ} → Puts (field_of word v ∷ []) p page after r → Puts (field word ns ∷ []) p page after r
  value-puts w = rw value-field at w

-- Some lines, then others.

module _ (fs gs : List Field) {p : ℕ} {page : List ℕ} where
  pub fits-first : Fits (fs ++ gs) p page → Fits fs p page
  fits-first h = record { room = omega (arith, fields-length fs gs, h.room) }

  pub fits-rest : {mid : List ℕ} {next : ℕ} → Fits (fs ++ gs) p page → Puts fs p page mid next → Fits gs next mid
  fits-rest {mid} h w =
      let l : length mid ≡ length page = rw w.wrote.stored (length-sets page p (fields_text fs)) in
      record { room = omega (arith, fields-length fs gs, h.room, l, w.wrote.behind) }

  pub puts-more : {mid after : List ℕ} {next r : ℕ} → Puts fs p page mid next → Puts gs next mid after r → Puts (fs ++ gs) p page after r
  puts-more a b = record { wrote = rw fields-append (wrote-more a.wrote b.wrote) }

-- a line, then others
module _ {f : Field} {gs : List Field} {p : ℕ} {page : List ℕ} where
  pub fits_line : Fits (f ∷ gs) p page → Fits (f ∷ []) p page
  fits_line h = fits-first (f ∷ []) gs h

  pub fits-behind : {mid : List ℕ} {next : ℕ} → Fits (f ∷ gs) p page → Puts (f ∷ []) p page mid next → Fits gs next mid
  fits-behind h w = fits-rest (f ∷ []) gs h w

  pub puts-line : {mid after : List ℕ} {next r : ℕ} → Puts (f ∷ []) p page mid next → Puts gs next mid after r → Puts (f ∷ gs) p page after r
  puts-line a b = puts-more (f ∷ []) gs a b
