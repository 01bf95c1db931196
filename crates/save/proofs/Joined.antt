-- What the parts of `write` and of `read` have done, put together.
use Prim.Native.Nat.{ℕ, ◌-◌, ◌≤◌}
use mathlib.Core.Path.{◌≡◌, refl, sym, ap, ◌∙◌}
use mathlib.Core.List.{List, map}
use mathlib.Core.Logic.{◌⊎◌, inl, inr, ◌≢◌}
use mathlib.Core.Option.{Option, none, some}
use native.Mathlib.Omega.{arith}
use lib.Dec.{eqb, ltb}
use lib.ListN.{length, take, drop, length-map}
use lib.Seq.{paste}
use borrow.Author.Tests.{eqb-true, eqb-false, eq-eqb, ltb-true, ltb-false, lt-leb}
use Rattle.basics.proofs.Basics.{by_bool}
use Rattle.rig.specs.declared.Rig.{Rig}
use Rattle.rig.specs.declared.Message.{Message}
use Rattle.rig.specs.declared.Answer.{Answer}
use Rattle.rig.specs.Answers.{refused}
use Rattle.rig.specs.Limits.{message_limit}
use Rattle.model.specs.Setup.{no_rig}
use Rattle.model.specs.State.{Tables, Stored, tables, stored}
use Rattle.model.specs.Event as M
use Rattle.list_rows.specs.Rows.{row_of, message_of, zero_rows}
use Rattle.list_rows.specs.State.{stored as in_rows}
use Rattle.engine_parts.specs.Parts.{list_code, read_of}
use Rattle.engine.specs.Lent.{answered}
use Rattle.engine.proofs.Lent.{kept, rejoined, shaped-same, too-many-shaped}
use Rattle.engine.proofs.Joined.{same_read}
use Rattle.save_text.specs.Text.{text_of, text_in, fields_in}
use Rattle.save_text.specs.Reading.{read_text}
use Rattle.save_text.specs.Calls.{written, read_into, or_refused}
use Rattle.save_storing.specs.Buffers.{written_with}
use Rattle.save_rows.specs.Rows.{read_code, ReadsRows}
use Rattle.save.specs.Start.{read_from}

-- the text of a state depends on those messages of its list that are under way
text_same : (t : Tables) (L l : List Message) (n : ℕ) → take n l ≡ take n L → text_of (record { tables = t; list = l; count = n }) ≡ text_of (record { tables = t; list = L; count = n })
unfolding text_of text_in fields_in
text_same t L l n u = rw u

-- written from the rows that were read from the list, the text is the list's
module _ (g : Rig) (ts : List (List (List ℕ))) (ys : List Message) (n : ℕ) (blank before : List (List ℕ)) (buffer : List ℕ) where
  pub written_same : blank ≡ zero_rows → before ≡ paste blank 0 (map row_of ys) (read_of (list_code n (length ys)) n)
      → written_with (list_code n (length ys)) (in_rows g ts before n) buffer ≡ written (stored g ts ys n) buffer
  unfolding written_with written
  written_same p q =
      by_bool (eqb (length ys) message_limit)
      (λ a. by_bool (ltb message_limit n)
      (λ b. rw (a, b, too-many-shaped (stored g ts ys n) (lt-leb n message_limit (ltb-true message_limit n b))))
      (λ b. let u = same_read n ys blank before p q (eqb-true (length ys) message_limit a) (ltb-false message_limit n b) in
      rw (a, b, shaped-same (tables g ts) ys (map message_of before) n u, text_same (tables g ts) ys (map message_of before) n u)))
      (λ a. rw a)

-- what is read into the rows of zeros, and from them into the list, is what the text says
module _ (text : List ℕ) (ts ts' : List (List (List ℕ))) (ys : List Message) (rows : List (List ℕ)) (r : Answer) (reads : ReadsRows (length ys) text ts ts' rows r) (full : length rows ≡ message_limit) where
  abbrev start : ℕ
  start = read_from r.code (length ys)

  abbrev lent : Stored
  lent = stored no_rig ts ys 0

  -- a text is read only into a list of full length
  long-list : r.code ≡ 0 → length ys ≡ message_limit
  unfolding read_code
  long-list z =
      by_bool (eqb (length ys) message_limit)
      (λ a. eqb-true (length ys) message_limit a)
      (λ a. let e : 0 ≡ 13 = rw a at (sym z ∙ reads.code) in absurd (omega arith))

  pub from_in : start ≤ length ys
  from_in = by_bool (eqb r.code 0) (λ a. rw a (omega arith)) (λ a. rw a (omega arith))

  -- the list's end, or a list as long as the rows
  pub from-full : (start ≡ length ys) ⊎ (length ys ≡ length rows)
  from-full = by_bool (eqb r.code 0) (λ a. inr (long-list (eqb-true _ 0 a) ∙ sym full)) (λ a. inl (rw a))

  -- 13 for a list of another length, and 14 for a text that says nothing
  refusal : r.code ≢ 0 → (o : Option Stored) → read_text text ≡ o → M.answer r.code lent ≡ read_into text lent
  unfolding read_code read_into or_refused
  refusal z none e =
      by_bool (eqb (length ys) message_limit)
      (λ a. rw (reads.code, a, e))
      (λ a. rw (reads.code, a))
  refusal z (some s) e =
      by_bool (eqb (length ys) message_limit)
      (λ a. absurd (z (rw (reads.code, a, e))))
      (λ a. rw (reads.code, a))

  pub read-joined : (zs : List Message) → zs ≡ paste ys start (drop start (map message_of rows)) (length ys - start) → answered r ts' zs ≡ read_into text lent
  unfolding read_into or_refused
  read-joined zs h =
      by_bool (eqb r.code 0)
      (λ a. let z = eqb-true r.code 0 a in
      let l = long-list z in
      let e : zs ≡ map message_of rows = rw a at h ∙ rejoined ys (map message_of rows) 0 (omega arith) (length-map rows message_of ∙ full ∙ sym l) refl in
      rw (e, z, eq-eqb (length ys) message_limit l, reads.read z))
      (λ a. let z = eqb-false r.code 0 a in
      let e : zs ≡ ys = rw a at h ∙ kept ys (drop (length ys) (map message_of rows)) in
      let w = reads.refused z in
      ap (λ (x : Answer). answered x ts' zs) w.0 ∙ ap (λ (us : List (List (List ℕ))). answered (refused r.code no_rig 0) us zs) w.1 ∙ ap (answered (refused r.code no_rig 0) ts) e ∙ refusal z (read_text text) refl)
