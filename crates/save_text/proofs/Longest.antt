-- How long each line of a well-shaped state is at most, and its text.
use Prim.Native.Nat.{ℕ, ◌+◌, ◌*◌, ◌≤◌}
use mathlib.Core.Bool.{Bool, true, false}
use mathlib.Core.List.{List, [], ◌∷◌, map}
use mathlib.Core.Path.{◌≡◌}
use native.Mathlib.Omega.{arith}
use lib.Dec.{eqb}
use lib.ListN.{length, length-append, length-take}
use Rattle.basics.proofs.Basics.{by_bool, and_split}
use Rattle.rig.specs.declared.Arbiter.{Arbiter}
use Rattle.rig.specs.declared.Message.{Message}
use Rattle.rig.specs.declared.Mode.{Mode}
use Rattle.rig.specs.declared.Mode.TheVariants.{Rest, Waiting, Inside}
use Rattle.rig.specs.Limits.{site_limit, number_limit, SiteNumber}
use Rattle.model.specs.Tables.{at, cell}
use Rattle.model.specs.State.{Tables, Stored, under_way, size_of, sets_of, has_member, seq_in, site_of, arbiter_of}
use Rattle.model.specs.Shape.{message_shaped, messages_shaped, well_shaped}
use Rattle.model.proofs.Shaped.{Shaped, shaped, about-high}
use Rattle.player_bytes.specs.Decimal.{decimal}
use Rattle.player_grammar.specs.Grammar.{sites_word, set_word}
use Rattle.save_lines.specs.Lines.{field_text, fields_text}
use Rattle.save_fields.specs.Fields.{mode_numbers, holder_numbers}
use Rattle.save_entries.specs.Entries.{entries}
use Rattle.save_messages.specs.Messages.{has_about, numbers_with, message_numbers}
use Rattle.save_messages.proofs.Messages.{from-high, to_high, number-high, kind-high}
use Rattle.save_text.specs.Text.{accepted_word, clock_word, mode_word, held_word, heir_word, inquired_word, grant_word, holder_word, queued_word, message_word, sites_field, set_field, accepted_field, fields_in, text_in, site_fields, arbiter_fields, message_field, this_spelling, text_of}
use Rattle.save_text.specs.Claims.{longest, NoneLonger}
use Rattle.save_text.proofs.Facts.{held_small, heir-small, inquired-small, queued-small, site-small, grant-small, holder-small}
use Rattle.save_text.proofs.Lengths.{decimal-short, weight, field-short, one-short, entries-short, members-short, fields-length, each-short}

-- clocks, sequence and grant numbers; sites; one digit
number_short : (n : ℕ) → n ≤ number_limit → length (decimal n) ≤ 7
number_short n h = decimal-short 6 n (omega arith)

site-short : (n : ℕ) → n ≤ site_limit → length (decimal n) ≤ 2
site-short n h = decimal-short 1 n (omega arith)

digit-short : (n : ℕ) → n ≤ 9 → length (decimal n) ≤ 1
digit-short n h = decimal-short 0 n (omega arith)

-- the row of a table: its entries have at most w bytes
row-short :
    (p : ℕ → Bool) (table : List (List ℕ)) (k w : ℕ)
    → ((j : ℕ) → SiteNumber j → p j ≡ true → length (decimal (cell table k j)) ≤ w)
    → weight (entries p (at [] table k)) ≤ (w + 1) * site_limit
unfolding entries cell
row-short p table k w h =
    let l = entries-short p (at [] table k) w site_limit (λ j a b e. h j (record { low = a; high = b }) e) in
    omega arith

-- a mode, with its sequence number and its failed mark
mode-short : (m : Mode) → seq_in m ≤ number_limit → weight (mode_numbers m) ≤ 12
unfolding mode_numbers weight
mode-short Rest e = let l = digit-short 0 (omega arith) in omega arith
mode-short (Waiting s true) e =
    let l = number_short s e in
    let a = digit-short 1 (omega arith) in
    omega arith
mode-short (Waiting s false) e =
    let l = number_short s e in
    let a = digit-short 0 (omega arith) in
    let b = digit-short 1 (omega arith) in
    omega arith
mode-short Inside e = let l = digit-short 2 (omega arith) in omega arith

-- the line of a set
set_line : (set : ℕ) → length (fields_text (set_field set ∷ [])) ≤ 88
unfolding set_field fields_text
set_line set = let l = field-short set_word _ 84 (members-short set) (omega arith) in simp length-append (omega arith)

module _ (s : Stored) (e : well_shaped s ≡ true) where
  abbrev t : Tables
  t = s.tables

  abbrev h : Shaped s
  h = shaped s e

  -- a site among 1 to N
  numbered : (k : ℕ) → 1 ≤ k → k ≤ size_of t → SiteNumber k
  numbered k a b = let z = h.sets.high in record { low = a; high = omega arith }

  -- the five lines of site k
  site-lines : (k : ℕ) → 1 ≤ k → k ≤ size_of t → length (fields_text (site_fields t k)) ≤ 639
  unfolding site_fields fields_text
  site-lines k a b =
      let i = numbered k a b in
      let small = site-small s e k i b in
      let f1 = one-short clock_word _ 7 (number_short _ small.0) in
      let f2 = field-short mode_word _ 12 (mode-short (site_of t k).mode small.1) (omega arith) in
      let f3 = field-short held_word _ 248 (row-short (has_member (sets_of t) k) t.held k 7 (λ j m _. number_short _ (held_small s e k j i m))) (omega arith) in
      let f4 = field-short heir_word _ 93 (row-short (has_member (sets_of t) k) t.heir k 2 (λ j m _. site-short _ (heir-small s e k j i m))) (omega arith) in
      let f5 = field-short inquired_word _ 248 (row-short (has_member (sets_of t) k) t.inquired k 7 (λ j m _. number_short _ (inquired-small s e k j i m))) (omega arith) in
      simp length-append (omega arith)

  -- the three lines of arbiter j
  holder-short : (a : Arbiter) → a.holder ≤ site_limit → a.seq ≤ number_limit → weight (holder_numbers a) ≤ 11
  unfolding holder_numbers weight
  holder-short a f g =
      let l = site-short a.holder f in
      let m = number_short a.seq g in
      by_bool (eqb a.holder 0)
      (λ z. let o = digit-short 0 (omega arith) in rw z (omega arith))
      (λ z. rw z (omega arith))

  arbiter-lines : (j : ℕ) → 1 ≤ j → j ≤ size_of t → length (fields_text (arbiter_fields t j)) ≤ 287
  unfolding arbiter_fields fields_text
  arbiter-lines j a b =
      let i = numbered j a b in
      let small = holder-small s e j i in
      let f1 = one-short grant_word _ 7 (number_short _ (grant-small s e j i)) in
      let f2 = field-short holder_word _ 11 (holder-short (arbiter_of t j) small.0 small.1) (omega arith) in
      let f3 = field-short queued_word _ 248 (row-short (λ k. has_member (sets_of t) k j) t.queued j 7 (λ k m _. number_short _ (queued-small s e k j m i))) (omega arith) in
      simp length-append (omega arith)

  -- the lines of the messages
  message-line : (m : Message) → message_shaped (size_of t) (sets_of t) m ≡ true → length (field_text (message_field m)) ≤ 27
  unfolding message_field message_numbers numbers_with weight
  message-line m f =
      let n = h.sets.high in
      let kind = digit-short m.kind (omega (arith, kind-high (size_of t) (sets_of t) m f)) in
      let from = site-short m.from (omega (arith, from-high (size_of t) (sets_of t) m f)) in
      let to = site-short m.to (omega (arith, to_high (size_of t) (sets_of t) m f)) in
      let about = site-short m.about (about-high s h m f) in
      let number = number_short m.number (number-high (size_of t) (sets_of t) m f) in
      field-short message_word (message_numbers m) 19
      (by_bool (has_about m.kind)
      (λ x. by_bool (eqb m.number 0) (λ y. rw (x, y) (omega arith)) (λ y. rw (x, y) (omega arith)))
      (λ x. by_bool (eqb m.number 0) (λ y. rw (x, y) (omega arith)) (λ y. rw (x, y) (omega arith))))
      (omega arith)

  message-lines : (ms : List Message) → messages_shaped (size_of t) (sets_of t) ms ≡ true → length (fields_text (map message_field ms)) ≤ 27 * length ms
  unfolding messages_shaped fields_text
  message-lines [] f = omega arith
  message-lines (m ∷ ms) f =
      let w = and_split (message_shaped (size_of t) (sets_of t) m) _ f in
      let a = message-line m w.0 in
      let b = message-lines ms w.1 in
      simp length-append (omega arith)

  -- the lines of the number of sites and of the accepted events, and all lines
  sites-line : length (field_text (sites_field (size_of t))) ≤ 9
  unfolding sites_field
  sites-line = one-short sites_word _ 2 (site-short (size_of t) h.sets.high)

  accepted-line : length (field_text (accepted_field t.rig.accepted)) ≤ 17
  unfolding accepted_field
  accepted-line = one-short accepted_word _ 7 (number_short t.rig.accepted (omega (arith, h.accepted)))

  text-short : length (text_of s) ≤ longest
  unfolding text_of text_in fields_in this_spelling fields_text
  text-short =
      let a = sites-line in
      let b = each-short (λ k. set_field (at 0 (sets_of t) k) ∷ []) 88 (size_of t) (λ k _ _. set_line (at 0 (sets_of t) k)) in
      let c = accepted-line in
      let d = each-short (site_fields t) 639 (size_of t) site-lines in
      let f = each-short (arbiter_fields t) 287 (size_of t) arbiter-lines in
      let g = message-lines (under_way s) h.messages in
      let l = length-take s.count s.list in
      let n = h.sets.high in
      let m = h.few in
      simp (length-append, fields-length) (omega arith)

pub none-longer : NoneLonger
unfolding NoneLonger
none-longer = text-short
