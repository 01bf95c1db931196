-- A state's text reads back as the state.
use Prim.Native.Nat.{ℕ, zero, suc, ◌+◌, ◌-◌, ◌*◌, ◌^◌, ◌≤◌, ◌<◌}
use mathlib.Core.Bool.{Bool, true, false, not, ◌&&◌}
use mathlib.Core.List.{List, [], ◌∷◌, ◌++◌, map}
use mathlib.Core.Option.{some, some-injective, none-ne-some}
use mathlib.Core.Path.{◌≡◌, refl, sym, ap, ◌∙◌}
use native.Mathlib.Omega.{arith}
use lib.Dec.{eqb, ltb}
use lib.ListN.{length, take, get_or, replicate, get_or-map, get_or-replicate, length-replicate}
use lib.Pow.{pow_mono}
use lib.Seq.{ext_get_or, length-take-le, take_at}
use borrow.Author.Tests.{eqb-true, eq-eqb, ltb-true, lt-ltb}
use Rattle.basics.specs.Helpers.{All}
use Rattle.basics.proofs.Basics.{by_bool, clash, and_split, and-true, all-at}
use Rattle.basics.proofs.Lists.{all_append, all_map, drop-map}
use Rattle.rig.specs.declared.Message.{Message}
use Rattle.rig.specs.Limits.{site_limit, number_limit, blank_row, SiteNumber}
use Rattle.model.specs.Tables.{at, cell}
use Rattle.model.specs.Sets.{names}
use Rattle.model.specs.Setup.{all_name, resting_site, free_arbiter}
use Rattle.model.specs.State.{Tables, Stored, under_way, size_of, sets_of, has_member, site_of, arbiter_of}
use Rattle.model.specs.Shape.{message_shaped, messages_shaped, well_shaped}
use Rattle.model.specs.Event.{padded}
use Rattle.model.proofs.Lawful.{no-members}
use Rattle.model.proofs.Shaped.{Shaped, shaped, ties, about-high}
use Rattle.player_bytes.specs.Same.{same}
use Rattle.player_text.specs.Player.{size_in, set_in}
use Rattle.rig_members.specs.Walk.{members_up_to}
use Rattle.plan_lines.specs.Lines.{list_text}
use Rattle.plan_read_back.proofs.Lines.{sites-read, set-read, members-within}
use Rattle.save_lines.specs.Lines.{Field, field, lines_in, numbers_in}
use Rattle.save_lines.proofs.Fields.{PlainWord, plain_bytes, PlainField, line_of, lines-of-fields, numbers-of-field}
use Rattle.save_fields.specs.Fields.{nth, mode_numbers, holder_numbers}
use Rattle.save_entries.specs.Entries.{entries, row_from}
use Rattle.save_messages.specs.Messages.{message_numbers, message_from}
use Rattle.save_entries.proofs.Rows.{entries-short, entries-bound, row-back-within}
use Rattle.save_fields.proofs.Fields.{mode-back, mode-short, mode-bound, arbiter-back, holder-short, holder-bound}
use Rattle.rig_members.proofs.Visits.{members-few}
use Rattle.save_messages.proofs.Messages.{message-back, message-short, message-bound, from-high, to_high, number-high, kind-high, about-none}
use Rattle.save_text.specs.Text.{clock_word, mode_word, held_word, heir_word, inquired_word, grant_word, holder_word, queued_word, message_word, each_up_to, sites_field, set_field, accepted_field, fields_in, text_in, site_fields, arbiter_fields, message_field, this_spelling, text_of}
use Rattle.save_text.specs.Reading.{line_at, numbers_at, site_line, arbiter_line, message_line, size_from, set_from, array_of, site_from, arbiter_at, own_row, queue_row, tables_of, sets_from, messages_from, state_from, is_text_of, accepts, read_text}
use Rattle.save_text.specs.Claims.{IsTable, IsState, kept, ReadBack, WrittenBack}
use Rattle.save_text.proofs.Places.{no_field, sites-at, set_at, accepted-at, site-at, arbiter-at, messages-behind}
use Rattle.save_text.proofs.Arrays.{array_same}
use Rattle.save_text.proofs.Facts

-- The fields of a state are plain

-- one number
plain-one : (word : List ℕ) (n : ℕ) → PlainWord word → n ≤ number_limit → PlainField (field word (n ∷ []))
unfolding All
plain-one word n p l = record { plain = p; small = (l, tt); few = omega arith }

plain-set : (set : ℕ) → PlainField (set_field set)
unfolding set_field plain_bytes
plain-set set = record {
  plain = refl;
  small = all_map (λ m. m ≤ site_limit) (λ m. m ≤ number_limit) (members_up_to set site_limit) (λ m l. omega arith) (members-within set site_limit);
  few = members-few set site_limit;
}

-- what holds of each site's fields
all-each : (P : Field → Type 0) (f : ℕ → List Field) (n : ℕ) → ((k : ℕ) → 1 ≤ k → k ≤ n → All P (f k)) → All P (each_up_to f n)
unfolding each_up_to All
all-each P f zero h = tt
all-each P f (suc n) h = all_append P (each_up_to f n) (f (suc n)) (all-each P f n (λ k a b. h k a (omega arith))) (h (suc n) (omega arith) (omega arith))

-- an entry of a list of which all hold
all-get : (P : Field → Type 0) (fs : List Field) (d : Field) (i : ℕ) → All P fs → P d → P (get_or fs i d)
unfolding All
all-get P [] d i h e = e
all-get P (f ∷ fs) d zero h e = h.0
all-get P (f ∷ fs) d (suc i) h e = all-get P fs d i h.1 e

-- a row of zeros
blank-row : (row : List ℕ) → length row ≡ site_limit → ((i : ℕ) → 1 ≤ i → i ≤ site_limit → at 0 row i ≡ 0) → row ≡ blank_row
unfolding at
blank-row row l z =
    ext_get_or 0 row blank_row (l ∙ sym (length-replicate {A = ℕ} site_limit 0))
    (λ i a. z (suc i) (omega arith) (omega arith) ∙ sym (get_or-replicate {A = ℕ} site_limit i 0 0 (omega arith)))

module _ (s : Stored) (w : well_shaped s ≡ true) where
  abbrev t : Tables
  t = s.tables

  abbrev n : ℕ
  n = size_of t

  abbrev h : Shaped s
  h = shaped s w

  site : (k : ℕ) → 1 ≤ k → k ≤ n → SiteNumber k
  site k a b = let z = h.sets.high in record { low = a; high = omega arith }

  plain-site : (k : ℕ) → 1 ≤ k → k ≤ n → All PlainField (site_fields t k)
  unfolding site_fields All plain_bytes cell
  plain-site k a b =
      let i = site k a b in
      let small = Facts.site-small s w k i b in (
        plain-one _ _ refl small.0,
        (
          record { plain = refl; small = mode-bound number_limit (site_of t k).mode (omega arith) small.1; few = omega (arith, mode-short (site_of t k).mode) },
          (
            record { plain = refl; small = entries-bound number_limit _ _ (λ j x y e. Facts.held_small s w k j i (record { low = x; high = y })); few = entries-short _ _ },
            (
              record { plain = refl; small = entries-bound number_limit _ _ (λ j x y e. omega (arith, Facts.heir-small s w k j i (record { low = x; high = y }))); few = entries-short _ _ },
              (
                record { plain = refl; small = entries-bound number_limit _ _ (λ j x y e. Facts.inquired-small s w k j i (record { low = x; high = y })); few = entries-short _ _ },
                tt,
              ),
            ),
          ),
        ),
      )

  plain-arbiter : (j : ℕ) → 1 ≤ j → j ≤ n → All PlainField (arbiter_fields t j)
  unfolding arbiter_fields All plain_bytes cell
  plain-arbiter j a b =
      let i = site j a b in
      let small = Facts.holder-small s w j i in (
        plain-one _ _ refl (Facts.grant-small s w j i),
        (
          record { plain = refl; small = holder-bound (arbiter_of t j) number_limit (omega (arith, small.0)) small.1; few = omega (arith, holder-short (arbiter_of t j)) },
          (
            record { plain = refl; small = entries-bound number_limit _ _ (λ k x y e. Facts.queued-small s w k j (record { low = x; high = y }) i); few = entries-short _ _ },
            tt,
          ),
        ),
      )

  plain-messages : (ms : List Message) → messages_shaped n (sets_of t) ms ≡ true → All PlainField (map message_field ms)
  unfolding messages_shaped message_field All plain_bytes
  plain-messages [] e = tt
  plain-messages (m ∷ ms) e =
      let a = and_split (message_shaped n (sets_of t) m) (messages_shaped n (sets_of t) ms) e in
      let z = h.sets.high in (
        record {
          plain = refl;
          small = message-bound m number_limit
              (omega (arith, kind-high n (sets_of t) m a.0))
              (omega (arith, from-high n (sets_of t) m a.0))
              (omega (arith, to_high n (sets_of t) m a.0))
              (omega (arith, about-high s h m a.0))
              (number-high n (sets_of t) m a.0);
          few = omega (arith, message-short m);
        },
        plain-messages ms a.1,
      )

  abbrev fs : List Field
  fs = fields_in this_spelling s

  plain-fields : All PlainField fs
  unfolding fields_in this_spelling sites_field accepted_field All plain_bytes
  plain-fields =
      let z = h.sets.high in
      let y = h.accepted in (
        plain-one _ n refl (omega arith),
        all_append PlainField (each_up_to (λ k. set_field (at 0 (sets_of t) k) ∷ []) n) _
            (all-each PlainField (λ k. set_field (at 0 (sets_of t) k) ∷ []) n (λ k a b. (plain-set (at 0 (sets_of t) k), tt))) (
              plain-one _ t.rig.accepted refl (omega arith),
              all_append PlainField (each_up_to (site_fields t) n) _ (all-each PlainField (site_fields t) n plain-site)
                  (all_append PlainField (each_up_to (arbiter_fields t) n) _ (all-each PlainField (arbiter_fields t) n plain-arbiter)
                  (plain-messages (under_way s) h.messages)),
            ),
      )

  -- The lines of the text, and their numbers.
  abbrev ls : List (List ℕ)
  ls = lines_in (text_of s)

  lines : ls ≡ map line_of fs
  unfolding text_of text_in
  lines = lines-of-fields fs plain-fields

  no_line : line_of no_field ≡ []
  unfolding list_text
  no_line = refl

  -- line i, of a field that is known
  line-of : (i : ℕ) (f : Field) → get_or fs i no_field ≡ f → line_at ls i ≡ line_of f
  line-of i f e = rw lines (ap (get_or (map line_of fs) i) (sym no_line) ∙ (get_or-map line_of fs i no_field ∙ ap line_of e))

  numbers_of : (i : ℕ) (f : Field) → get_or fs i no_field ≡ f → numbers_at ls i ≡ f.numbers ++ replicate (site_limit - length f.numbers) 0
  unfolding numbers_at plain_bytes All
  numbers_of i f e =
      let p : PlainField f = rw (← e) (all-get PlainField fs no_field i plain-fields (record { plain = refl; small = tt; few = omega arith })) in
      rw (line-of i f e) (numbers-of-field f p)

  -- which field stands where: five for a site, three for an arbiter
  five : (k : ℕ) → length (this_spelling.site t k) ≡ 5
  unfolding this_spelling site_fields
  five k = refl

  three : (j : ℕ) → length (this_spelling.arbiter t j) ≡ 3
  unfolding this_spelling arbiter_fields
  three j = refl

  site-field : (k c : ℕ) → 1 ≤ k → k ≤ n → c < 5 → get_or fs (site_line n k + c) no_field ≡ get_or (site_fields t k) c no_field
  unfolding this_spelling
  site-field k c a b l = let e : n + 2 + (5 * (k - 1) + c) ≡ site_line n k + c = omega arith in rw e at (site-at this_spelling 5 3 s five three k c a b l)

  arbiter-field : (j c : ℕ) → 1 ≤ j → j ≤ n → c < 3 → get_or fs (arbiter_line n j + c) no_field ≡ get_or (arbiter_fields t j) c no_field
  unfolding this_spelling
  arbiter-field j c a b l = let e : n + 2 + (5 * n + (3 * (j - 1) + c)) ≡ arbiter_line n j + c = omega arith in rw e at (arbiter-at this_spelling 5 3 s five three j c a b l)

  -- the number of sites, and the sets
  size_back : size_from ls ≡ n
  unfolding size_from sites_field size_in list_text
  size_back =
      let z = h.sets.high in
      rw (line-of 0 (sites_field n) (sites-at this_spelling 5 3 s five three), sites-read n (omega arith))

  names-within : (k : ℕ) → 1 ≤ k → k ≤ n → names site_limit (at 0 (sets_of t) k) ≡ true
  unfolding all_name names
  names-within k a b =
      let z = h.sets.high in
      let p = and_split (not (eqb (at 0 (sets_of t) k) 0)) (ltb (at 0 (sets_of t) k) (2 ^ n)) (all-at (λ i. names n (at 0 (sets_of t) i)) n k h.sets.name a b) in
      let l = ltb-true (at 0 (sets_of t) k) (2 ^ n) p.1 in
      let m = pow_mono {i = n} {j = site_limit} z in
      and-true (not (eqb (at 0 (sets_of t) k) 0)) _ p.0 (lt-ltb (at 0 (sets_of t) k) (2 ^ site_limit) (omega arith))

  set_back : (k : ℕ) → 1 ≤ k → k ≤ n → set_from ls k ≡ at 0 (sets_of t) k
  unfolding set_from set_field set_in
  set_back k a b = rw (line-of k (set_field (at 0 (sets_of t) k)) (set_at this_spelling 5 3 s five three k a b), set-read (at 0 (sets_of t) k) (names-within k a b))

  sets-back : sets_from ls ≡ sets_of t
  unfolding sets_from
  sets-back = rw size_back (array_same 0 0 (set_from ls) n (sets_of t) h.sets.long h.sets.high set_back (λ k l m. h.past k l))

  accepted-back : nth (numbers_at ls (suc n)) 0 ≡ t.rig.accepted
  unfolding accepted_field
  accepted-back = rw (numbers_of (suc n) (accepted_field t.rig.accepted) (accepted-at this_spelling 5 3 s five three))

  -- the sites and the arbiters
  site-back : (k : ℕ) → 1 ≤ k → k ≤ n → site_from ls n (sets_of t) k ≡ site_of t k
  unfolding site_from site_fields
  site-back k a b =
      let e : site_line n k + 0 ≡ site_line n k = omega arith in
      let clock = rw e at (numbers_of (site_line n k + 0) (field clock_word ((site_of t k).clock ∷ [])) (site-field k 0 a b (omega arith))) in
      let mode = numbers_of (site_line n k + 1) (field mode_word (mode_numbers (site_of t k).mode)) (site-field k 1 a b (omega arith)) in
      rw (clock, mode, mode-back (site_of t k).mode (site_limit - length (mode_numbers (site_of t k).mode)))

  arbiter-back-at : (j : ℕ) → 1 ≤ j → j ≤ n → arbiter_at ls n (sets_of t) j ≡ arbiter_of t j
  unfolding arbiter_at arbiter_fields
  arbiter-back-at j a b =
      let e : arbiter_line n j + 0 ≡ arbiter_line n j = omega arith in
      let grant = rw e at (numbers_of (arbiter_line n j + 0) (field grant_word ((arbiter_of t j).grant ∷ [])) (arbiter-field j 0 a b (omega arith))) in
      let holder = numbers_of (arbiter_line n j + 1) (field holder_word (holder_numbers (arbiter_of t j))) (arbiter-field j 1 a b (omega arith)) in
      rw (grant, holder) (arbiter-back (arbiter_of t j) (site_limit - length (holder_numbers (arbiter_of t j))) (Facts.none-zero s w j (site j a b)))

  -- A table of which the rows stand in lines: site k has its row in a line of its own, and the rows past n are blank.
  table-back :
      (table : List (List ℕ)) (row : ℕ → List ℕ) (tie : ℕ → ℕ → Bool) (i : ℕ → ℕ)
      → IsTable table
      → ((a b : ℕ) → SiteNumber a → SiteNumber b → tie a b ≡ false → cell table a b ≡ 0)
      → ((a b : ℕ) → n < a → tie a b ≡ false)
      → ((a : ℕ) → row a ≡ row_from (tie a) (numbers_at ls (i a)))
      → ((a : ℕ) → 1 ≤ a → a ≤ n → numbers_at ls (i a) ≡ entries (tie a) (at [] table a) ++ replicate (site_limit - length (entries (tie a) (at [] table a))) 0)
      → array_of blank_row row n ≡ table
  unfolding cell
  table-back table row tie i is zero-at past row_is numbers =
      array_same blank_row [] row n table is.rows h.sets.high
      (λ a x y. let z = h.sets.high in
      row_is a ∙ rw (numbers a x y)
      (row-back-within (tie a) (at [] table a) (site_limit - length (entries (tie a) (at [] table a))) (is.columns a x (omega arith))
      (λ b u v e. zero-at a b (record { low = x; high = omega arith }) (record { low = u; high = v }) e)))
      (λ a x y. blank-row (at [] table a) (is.columns a (omega arith) y)
      (λ b u v. zero-at a b (record { low = omega arith; high = y }) (record { low = u; high = v }) (past a b x)))

  module _ (is : IsState s) where
    no_tie : (k j : ℕ) → n < k → has_member (sets_of t) k j ≡ false
    no_tie k j l = rw (h.past k l) (no-members j)

    held_back : array_of blank_row (own_row ls n (sets_of t) 2) n ≡ t.held
    unfolding own_row site_fields
    held_back = table-back t.held _ (has_member (sets_of t)) (λ k. site_line n k + 2) is.held (Facts.held-zero s w) no_tie (λ k. refl)
        (λ k a b. numbers_of (site_line n k + 2) (field held_word (entries (has_member (sets_of t) k) (at [] t.held k))) (site-field k 2 a b (omega arith)))

    heir-back : array_of blank_row (own_row ls n (sets_of t) 3) n ≡ t.heir
    unfolding own_row site_fields
    heir-back = table-back t.heir _ (has_member (sets_of t)) (λ k. site_line n k + 3) is.heir (Facts.heir-zero s w) no_tie (λ k. refl)
        (λ k a b. numbers_of (site_line n k + 3) (field heir_word (entries (has_member (sets_of t) k) (at [] t.heir k))) (site-field k 3 a b (omega arith)))

    inquired-back : array_of blank_row (own_row ls n (sets_of t) 4) n ≡ t.inquired
    unfolding own_row site_fields
    inquired-back = table-back t.inquired _ (has_member (sets_of t)) (λ k. site_line n k + 4) is.inquired (Facts.inquired-zero s w) no_tie (λ k. refl)
        (λ k a b. numbers_of (site_line n k + 4) (field inquired_word (entries (has_member (sets_of t) k) (at [] t.inquired k))) (site-field k 4 a b (omega arith)))

    queued-back : array_of blank_row (queue_row ls n (sets_of t)) n ≡ t.queued
    unfolding queue_row arbiter_fields
    queued-back = table-back t.queued _ (λ j k. has_member (sets_of t) k j) (λ j. arbiter_line n j + 2) is.queued
        (λ j k a b. Facts.queued-zero s w k j b a)
        (λ j k l. no-asker j k l) (λ j. refl)
        (λ j a b. numbers_of (arbiter_line n j + 2) (field queued_word (entries (λ k. has_member (sets_of t) k j) (at [] t.queued j))) (arbiter-field j 2 a b (omega arith)))
      where
        no-asker : (j k : ℕ) → n < j → has_member (sets_of t) k j ≡ false
        no-asker j k l = by_bool (has_member (sets_of t) k j) (λ e. let i = ties s h k j e in absurd (omega (arith, i.3))) (λ e. e)

    tables-back : tables_of ls n (sets_of t) ≡ t
    unfolding tables_of
    tables-back =
        let z = h.sets.high in
        rw (
          array_same resting_site resting_site (site_from ls n (sets_of t)) n t.rig.sites is.sites z site-back
              (λ k l m. Facts.site-past s w k (record { low = omega arith; high = m }) l),
          array_same free_arbiter free_arbiter (arbiter_at ls n (sets_of t)) n t.rig.arbiters is.arbiters z arbiter-back-at
              (λ k l m. Facts.arbiter-past s w k (record { low = omega arith; high = m }) l),
          accepted-back,
          held_back,
          heir-back,
          inquired-back,
          queued-back,
        )

  -- The messages.
  each-message : (ms : List Message) → messages_shaped n (sets_of t) ms ≡ true → map (λ l. message_from (numbers_in l)) (map line_of (map message_field ms)) ≡ ms
  unfolding messages_shaped message_field All
  each-message [] e = refl
  each-message (m ∷ ms) e =
      let a = and_split (message_shaped n (sets_of t) m) (messages_shaped n (sets_of t) ms) e in
      rw (
        numbers-of-field (field message_word (message_numbers m)) (plain-messages (m ∷ ms) e).0,
        message-back m (site_limit - length (message_numbers m)) (about-none n (sets_of t) m a.0),
        each-message ms a.1,
      )

  messages-back : messages_from ls ≡ under_way s
  unfolding messages_from this_spelling
  messages-back =
      let e : n + 2 + (5 * n + 3 * n) ≡ message_line n = omega arith in
      rw (size_back, lines, drop-map line_of (message_line n) fs, rw e at (messages-behind this_spelling 5 3 s five three)) (each-message (under_way s) h.messages)

  module _ (is : IsState s) where
    counted : length (under_way s) ≡ s.count
    counted = length-take-le s.count s.list (omega (arith, h.few, is.list))

    state-back : state_from ls ≡ kept s
    unfolding state_from kept
    state-back = rw (size_back, sets-back, tables-back is, messages-back, counted)

    -- what is kept is the same state, but for the list past the messages
    kept-messages : take s.count (padded (under_way s)) ≡ under_way s
    unfolding padded
    kept-messages = take_at (under_way s) _ s.count counted

    kept-shaped : well_shaped (kept s) ≡ true
    unfolding well_shaped kept
    kept-shaped = rw kept-messages w

    kept-text : text_of (kept s) ≡ text_of s
    unfolding text_of text_in fields_in kept
    kept-text = rw kept-messages

same_self : (xs : List ℕ) → same xs xs ≡ true
unfolding same
same_self [] = refl
same_self (x ∷ xs) = rw (eq-eqb x x refl, same_self xs)

pub read_back : ReadBack
unfolding ReadBack read_text accepts is_text_of text_of
read_back s is w = rw (state-back s w is, kept-shaped s w is, kept-text s w is, same_self (text_of s))

-- The other way round: what is accepted was compared.
same-equal : (xs ys : List ℕ) → same xs ys ≡ true → xs ≡ ys
unfolding same
same-equal [] [] e = refl
same-equal [] (y ∷ ys) e = clash false e refl
same-equal (x ∷ xs) [] e = clash false e refl
same-equal (x ∷ xs) (y ∷ ys) e = let p = and_split (eqb x y) (same xs ys) e in rw (eqb-true x y p.0, same-equal xs ys p.1)

accepted-by : (text : List ℕ) (a s : Stored) → accepts this_spelling text a ≡ some s → (well_shaped s ≡ true) × (text_of s ≡ text)
unfolding accepts is_text_of text_of
accepted-by text a s e =
    by_bool (well_shaped a && same (text_of a) text)
    (λ b. let p = and_split (well_shaped a) (same (text_of a) text) b in
    let q = some-injective a s (rw b at e) in
    rw (← q) (p.0, same-equal (text_of a) text p.1))
    (λ b. absurd (none-ne-some s (rw b at e)))

pub written_back : WrittenBack
unfolding WrittenBack read_text
written_back text s e = accepted-by text (state_from (lines_in text)) s e
