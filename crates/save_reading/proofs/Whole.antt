-- The parts together: the state that the lines of a text give.
use Prim.Native.Nat.{ℕ, ◌-◌, ◌≤◌, ◌<◌}
use mathlib.Core.Bool.{false}
use mathlib.Core.List.{List, map}
use mathlib.Core.Path.{◌≡◌, sym, ap, ◌∙◌}
use native.Mathlib.Omega.{arith}
use borrow.Author.Tests.{lt-leb, le-leb, leb-true}
use lib.Dec.{leb}
use lib.ListN.{length, take, drop, replicate, length-append, length-map, length-replicate}
use lib.Seq.{take_at}
use Rattle.rig.specs.declared.Arbiter.{Arbiter}
use Rattle.rig.specs.declared.Rig.{Rig}
use Rattle.rig.specs.declared.Site.{Site}
use Rattle.rig.specs.declared.Message.{Message}
use Rattle.rig.specs.Limits.{site_limit, message_limit}
use Rattle.model.specs.Event.{padded}
use Rattle.list_rows.specs.Rows.{row_of, message_of, zero_row, ZeroPast}
use Rattle.list_rows.proofs.Rows.{messages-of-rows, cleared-padded}
use Rattle.std.specs.Prelude.{Option}
use Rattle.player_grammar.specs.declared.Line.{Line}
use Rattle.player_text.specs.Player.{size_in}
use Rattle.save_lines.specs.Lines.{lines_in}
use Rattle.save_fields.specs.Fields.{nth}
use Rattle.save_text.specs.Reading.{or_zero, numbers_at, accepted_line, message_line, size_from, sets_from, tables_of, messages_from, state_from}
use Rattle.save_taking.specs.declared.Taken.{Taken}
use Rattle.save_taking.specs.Parts.{taken_here, meant_here}
use Rattle.save_reading.specs.Places.{line_start}
use Rattle.save_reading.specs.Lines.{taken_sets, taken_sites, taken_arbiters, all_tables, messages_in, message_rows, ReadsAll, fitting, GivesState}
use Rattle.save_reading.proofs.Places.{lines_left, line-at, numbers-at}

-- the rows of messages, as messages again
module _ (ms : List Message) (room : length ms ≤ message_limit) where
  rows_long : length (message_rows ms) ≡ message_limit
  rows_long =
      length-append (map row_of ms) (replicate (message_limit - length ms) zero_row)
      ∙ rw (length-map ms row_of, length-replicate (message_limit - length ms) zero_row) (omega arith)

  front : take (length ms) (message_rows ms) ≡ map row_of ms
  front = take_at (map row_of ms) (replicate (message_limit - length ms) zero_row) (length ms) (length-map ms row_of)

  rows-zero : ZeroPast (length ms) (message_rows ms)
  rows-zero = rw (front, rows_long)

  rows-say : map message_of (message_rows ms) ≡ padded ms
  rows-say =
      ap (λ rows. map message_of rows) (sym rows-zero)
      ∙ (cleared-padded (length ms) (message_rows ms) rows_long (rw rows_long room)
      ∙ rw (front, messages-of-rows ms))

-- too many sites
pub too_large : (text : List ℕ) (n : ℕ) → n ≡ size_from (lines_in text) → site_limit < n → fitting (lines_in text) ≡ false
too_large text n e h = rw (lt-leb (size_from (lines_in text)) site_limit (rw e at h))

-- the rig of n sites
abbrev pub given_rig : List ℕ → ℕ → List ℕ → Rig
given_rig text n sets = record {
  size = n;
  sets = sets;
  sites = (taken_sites text n sets).value;
  arbiters = (taken_arbiters text n sets).value;
  accepted = nth (numbers_at (lines_in text) (accepted_line n)) 0;
}

module _ (text : List ℕ) (size : size_from (lines_in text) ≤ site_limit) where
  abbrev ls : List (List ℕ)
  ls = lines_in text

  abbrev n : ℕ
  n = size_from ls

  -- the lines behind those of the arbiters
  abbrev rest : List (List ℕ)
  rest = lines_in (drop (line_start text (message_line n)) text)

  made : messages_in rest ≡ messages_from ls
  unfolding messages_from
  made = ap messages_in (lines_left text (message_line n))

  as_many : length rest ≡ length (messages_from ls)
  as_many = sym (length-map rest _) ∙ ap length made

  -- too many messages
  pub too_long : leb (length rest) message_limit ≡ false → fitting ls ≡ false
  too_long h = rw (le-leb n site_limit size, ← as_many, h)

  module _ (list : List (List ℕ)) (m : ℕ) (read : ReadsAll rest list m) where
    room : length (messages_from ls) ≤ message_limit
    room = leb-true (length (messages_from ls)) message_limit (rw as_many at read.all)

    rows : list ≡ message_rows (messages_from ls)
    rows = read.rows ∙ ap message_rows made

    pub gives : GivesState text (all_tables text n (sets_from ls) n) list (record { rig = given_rig text n (sets_from ls); count = m })
    unfolding state_from tables_of
    gives = record {
      fits = rw (le-leb n site_limit size, ← as_many) read.all;
      state = rw (read.count, as_many, ap (λ l. map message_of l) rows ∙ rows-say (messages_from ls) room);
      zeros = rw (read.count, as_many, rows) (rows-zero (messages_from ls) room);
    }

-- the first line gives the number of sites
pub size-read : (text : List ℕ) (n : ℕ) (first : Taken (Option Line)) → first ≡ meant_here text 0 → n ≡ or_zero (size_in first.value) → n ≡ size_from (lines_in text)
unfolding size_from line_start
size-read text n first e s = s ∙ rw (e, line-at text 0)

-- the parts as the code reads them, one behind the other
module _ (text : List ℕ) (n : ℕ) (size : n ≡ size_from (lines_in text)) (few : n ≤ site_limit)
    (sets events : Taken (List ℕ)) (own : Taken (List Site)) (queues : Taken (List Arbiter))
    (q : queues ≡ taken_arbiters text n sets.value) where
  pub too-many-parts : leb (length (lines_in (drop queues.next text))) message_limit ≡ false → fitting (lines_in text) ≡ false
  too-many-parts h = too_long text (rw size at few) (rw (q, size) at h)

  pub gives-parts : (m : ℕ) (ts : List (List (List ℕ))) (list : List (List ℕ))
      → sets ≡ taken_sets text n
      → events ≡ taken_here text sets.next
      → own ≡ taken_sites text n sets.value
      → ts ≡ all_tables text n sets.value n
      → ReadsAll (lines_in (drop queues.next text)) list m
      → GivesState text ts list (record {
        rig = record { size = n; sets = sets.value; sites = own.value; arbiters = queues.value; accepted = nth events.value 0 };
        count = m;
      })
  unfolding sets_from
  gives-parts m ts list g e o t read =
      rw (t, e, o, q, g, numbers-at text (accepted_line n), size) (gives text (rw size at few) list m (rw (q, size) at read))
