-- One turn of each loop: what one site's lines give, behind those before it.
use Prim.Native.Nat.{ℕ, suc, ◌+◌, ◌*◌, ◌<◌}
use mathlib.Core.Bool.{Bool}
use mathlib.Core.List.{List}
use mathlib.Core.Path.{◌≡◌}
use native.Mathlib.Omega.{arith}
use lib.ListN.{get_or, set}
use Rattle.rig.specs.declared.Site.{Site}
use Rattle.rig.specs.declared.Arbiter.{Arbiter}
use Rattle.rig.specs.Limits.{site_limit, blank_row, QUEUED}
use Rattle.model.specs.Sets.{member, set_of}
use Rattle.model.specs.State.{has_member}
use Rattle.model.specs.Tables.{at}
use Rattle.model.specs.Setup.{resting_site, free_arbiter}
use Rattle.std.specs.Prelude.{Option}
use Rattle.player_grammar.specs.declared.Line.{Line}
use Rattle.player_text.specs.Player.{set_in}
use Rattle.save_lines.specs.Lines.{lines_in}
use Rattle.save_text.specs.Reading.{numbers_at, site_line, arbiter_line, or_zero, set_from, site_from, arbiter_at, own_row, queue_row}
use Rattle.family_sets.proofs.Members.{member_of}
use Rattle.save_entries.proofs.Rows.{row_same}
use Rattle.save_taking.specs.declared.Taken.{Taken}
use Rattle.save_taking.specs.Places.{place_behind}
use Rattle.save_taking.specs.Parts.{meant_here, site_here, arbiter_here, row_here, with_row, with_own}
use Rattle.save_reading.specs.Places.{line_start}
use Rattle.save_reading.specs.Lines.{own_tables, all_tables}
use Rattle.save_reading.proofs.Places.{line-at, numbers-at}
use Rattle.save_reading.proofs.Arrays.{part_of, part-more, array-more}

-- a set more
module _ (text : List ℕ) (i : ℕ) (next : ℕ) (start : next ≡ line_start text (suc i)) (taken : Taken (Option Line)) (e : taken ≡ meant_here text next) where
  pub behind-set : taken.next ≡ line_start text (suc (suc i))
  unfolding line_start
  behind-set = rw (e, start)

  pub set_more : (n : ℕ) → i < n → (sets : List ℕ) (s : ℕ) → sets ≡ part_of 0 (set_from (lines_in text)) n i → s ≡ or_zero (set_in taken.value)
      → set sets i s ≡ part_of 0 (set_from (lines_in text)) n (suc i)
  unfolding set_from
  set_more n here sets s a t = rw (t, e, start, line-at text (suc i), a) (part-more 0 (set_from (lines_in text)) n i here)

-- a site more, of n with these sets
module _ (text : List ℕ) (n : ℕ) (sets : List ℕ) (i : ℕ) (here : i < site_limit) (next : ℕ) (start : next ≡ line_start text (n + 2 + 5 * i)) where
  -- the line of site i + 1
  line-of : site_line n (suc i) ≡ n + 2 + 5 * i
  line-of = omega arith

  pub behind-site : place_behind text (place_behind text (place_behind text (place_behind text (place_behind text next)))) ≡ line_start text (n + 2 + 5 * suc i)
  unfolding line_start
  behind-site =
      let e : n + 2 + 5 * suc i ≡ suc (suc (suc (suc (suc (n + 2 + 5 * i))))) = omega arith in
      rw (e, start)

  pub site-more : i < n → (sites : List Site) → sites ≡ part_of resting_site (site_from (lines_in text) n sets) n i
      → set sites i (site_here text next).value ≡ part_of resting_site (site_from (lines_in text) n sets) n (suc i)
  unfolding site_from line_start
  site-more inside sites a =
      let e : site_line n (suc i) + 1 ≡ suc (n + 2 + 5 * i) = omega arith in
      let f : site_from (lines_in text) n sets (suc i) ≡ (site_here text next).value = rw (e, line-of, start, numbers-at text (n + 2 + 5 * i), ← numbers-at text (suc (n + 2 + 5 * i))) in
      rw (a, ← f) (part-more resting_site (site_from (lines_in text) n sets) n i inside)

  -- its rows: a row for each of its lines but the first two
  own-row : (c at m : ℕ) → at ≡ line_start text m → site_line n (suc i) + c ≡ m → row_here (get_or sets i 0) text at ≡ own_row (lines_in text) n sets c (suc i)
  unfolding own_row at
  own-row c at m e l = rw (e, numbers-at text m, l)

  pub own-more : (ts : List (List (List ℕ))) → ts ≡ own_tables text n sets i
      → with_own ts i (get_or sets i 0) text (place_behind text (place_behind text next)) ≡ own_tables text n sets (suc i)
  unfolding line_start
  own-more ts a =
      let m = n + 2 + 5 * i in
      rw (
        a,
        own-row 2 (place_behind text (place_behind text next)) (suc (suc m)) (rw start) (omega arith),
        own-row 3 (place_behind text (place_behind text (place_behind text next))) (suc (suc (suc m))) (rw start) (omega arith),
        own-row 4 (place_behind text (place_behind text (place_behind text (place_behind text next)))) (suc (suc (suc (suc m)))) (rw start) (omega arith),
        array-more blank_row (own_row (lines_in text) n sets 2) i here,
        array-more blank_row (own_row (lines_in text) n sets 3) i here,
        array-more blank_row (own_row (lines_in text) n sets 4) i here,
      )

-- an arbiter more, of n in a rig with these sets
module _ (text : List ℕ) (n : ℕ) (sets : List ℕ) (i : ℕ) (here : i < site_limit) (next : ℕ) (start : next ≡ line_start text (6 * n + 2 + 3 * i)) where
  pub behind-arbiter : place_behind text (place_behind text (place_behind text next)) ≡ line_start text (6 * n + 2 + 3 * suc i)
  unfolding line_start
  behind-arbiter =
      let e : 6 * n + 2 + 3 * suc i ≡ suc (suc (suc (6 * n + 2 + 3 * i))) = omega arith in
      rw (e, start)

  pub arbiter-more : i < n → (arbiters : List Arbiter) → arbiters ≡ part_of free_arbiter (arbiter_at (lines_in text) n sets) n i
      → set arbiters i (arbiter_here text next).value ≡ part_of free_arbiter (arbiter_at (lines_in text) n sets) n (suc i)
  unfolding arbiter_at line_start
  arbiter-more inside arbiters a =
      let m = 6 * n + 2 + 3 * i in
      let e : arbiter_line n (suc i) ≡ m = omega arith in
      let e' : arbiter_line n (suc i) + 1 ≡ suc m = omega arith in
      let f : arbiter_at (lines_in text) n sets (suc i) ≡ (arbiter_here text next).value = rw (e', e, start, numbers-at text m, ← numbers-at text (suc m)) in
      rw (a, ← f) (part-more free_arbiter (arbiter_at (lines_in text) n sets) n i inside)

  -- its row: the entries of the sites that have it in their sets
  queue-row : row_here (set_of (λ k. has_member sets k (suc i)) site_limit) text (place_behind text (place_behind text next)) ≡ queue_row (lines_in text) n sets (suc i)
  unfolding queue_row line_start
  queue-row =
      let m = 6 * n + 2 + 3 * i in
      let p : ℕ → Bool = λ k. has_member sets k (suc i) in
      let l : arbiter_line n (suc i) + 2 ≡ suc (suc m) = omega arith in
      rw (start, numbers-at text (suc (suc m)), l) (row_same (member (set_of p site_limit)) p (numbers_at (lines_in text) (suc (suc m))) (λ k x y. member_of p site_limit k x y))

  pub queue-more : (ts : List (List (List ℕ))) (set : ℕ) → ts ≡ all_tables text n sets i → set ≡ set_of (λ k. has_member sets k (suc i)) site_limit
      → with_row ts QUEUED i (row_here set text (place_behind text (place_behind text next))) ≡ all_tables text n sets (suc i)
  queue-more ts set a e = rw (a, e, queue-row, array-more blank_row (queue_row (lines_in text) n sets) i here)
