-- A printed setup read: the player is ready for the first event, and has printed nothing, or it stops with 17.
use Prim.Native.Nat.{ℕ, zero, suc, ◌+◌, ◌-◌, ◌^◌, ◌≤◌, ◌<◌}
use mathlib.Core.Bool.{true, not}
use mathlib.Core.List.{List, [], ◌∷◌, ◌++◌, append-nil, append_assoc}
use mathlib.Core.Logic.{⊎_elim}
use Rattle.std.specs.Prelude.{Some}
use mathlib.Core.Path.{◌≡◌, refl, ◌∙◌}
use native.Mathlib.Numerals.{add-one}
use native.Mathlib.Omega.{arith}
use borrow.Author.Tests.{ne_eqb, lt-ltb, le-ltb}
use lib.Dec.{eqb, ltb}
use lib.ListN.{take, replicate}
use lib.Pow.{pow_mono}
use lib.Seq.{append_snoc, take_at, length-take-le}
use Rattle.basics.specs.Helpers.{All}
use Rattle.basics.proofs.Basics.{and_split, all-at}
use Rattle.basics.proofs.Lists.{padded-more}
use Rattle.rig.specs.Limits.{site_limit}
use Rattle.model.specs.Tables.{at, put}
use Rattle.model.specs.Sets.{names}
use Rattle.model.specs.Setup.{all_name, meeting_code, setup_code, kept_sets, fresh_rig}
use Rattle.model.specs.State.{fresh_tables}
use Rattle.model.specs.Run.{fresh}
use Rattle.model.proofs.Sets.{names-below}
use Rattle.model.proofs.Setup.{Accepted, setup-meeting, zero-or-17, meeting, accepted-meeting, size-listed}
use Rattle.model.proofs.Lawful.{kept-code}
use Rattle.setup_faults.specs.Faults.{fault_line}
use Rattle.setup_faults.proofs.Rules.{kept_line}
use Rattle.player_grammar.specs.Grammar.{meaning_of}
use Rattle.player_text.specs.declared.Stage.TheVariants.{Sets}
use Rattle.player_text.specs.Player.{Text, Outcome, outcome, counted, stopped, size_in, set_in, on_size, all_given, on_set, on_line, start, transcript, output}
use Rattle.player_printing.specs.Printing.{stop_line}
use Rattle.player_text.proofs.Stages.{line-size, line_set}
use Rattle.player_parts.proofs.Long.{transcript-over}
use Rattle.plan_lines.specs.Lines.{sites_bytes, set_bytes, sites_text, set_text, set_texts, setup_text}
use Rattle.plan_read_back.specs.Ready.{ready, played_behind}
use Rattle.plan_read_back.proofs.Numbers.{Lacks}
use Rattle.plan_read_back.proofs.Lines.{sites-read, set-read, sites-one-line, set-one-line}

-- a line up to its byte 10
line-ends : (p : Text) (line bs rest : List ℕ) → Lacks 10 bs
    → transcript p line (bs ++ (10 ∷ rest)) ≡ (on_line p (line ++ bs)).said ++ transcript (on_line p (line ++ bs)).next [] rest
unfolding transcript All
line-ends p line [] rest h = rw (append-nil line)
line-ends p line (b ∷ bs) rest h = rw h.0 (line-ends p (line ++ (b ∷ [])) bs rest h.1 ∙ rw (append_snoc line b bs))

whole-line : (p : Text) (o : Outcome) (bs rest : List ℕ) → Lacks 10 bs → on_line p bs ≡ o
    → transcript p [] (bs ++ (10 ∷ []) ++ rest) ≡ o.said ++ transcript o.next [] rest
whole-line p o bs rest h e = rw (append_snoc bs 10 rest) (line-ends p [] bs rest h ∙ rw e)

count_small : (n : ℕ) → n ≤ site_limit → counted n ≡ n + 1
unfolding counted
count_small n h = rw (ne_eqb n 18_446_744_073_709_551_615 (λ e. omega arith))

-- a set of sites up to n is one of sites up to the limit
names_more : (n s : ℕ) → n ≤ site_limit → names n s ≡ true → names site_limit s ≡ true
unfolding names
names_more n s h e =
    let below = names-below n s e in
    let most = pow_mono h in
    rw ((and_split (not (eqb s 0)) (ltb s (2 ^ n)) e).0, lt-ltb s (2 ^ site_limit) (omega arith))

-- the player behind i of n sets, where more come
abbrev behind : ℕ → List ℕ → ℕ → Text
behind n sets i = record { stage = Sets; line = i + 1; step = 0; size = n; given = i; sets = kept_sets i sets; state = start.state }

module _ (n : ℕ) (sets : List ℕ) (a : Accepted n sets) where
  -- set i + 1 is read as what it is
  set-meant : (i : ℕ) → i < n → set_in (meaning_of (set_bytes (at 0 sets (suc i)))) ≡ Some (at 0 sets (suc i))
  unfolding set_in all_name
  set-meant i h =
      let named = all-at (λ k. names n (at 0 sets k)) n (suc i) a.name (omega arith) (omega arith) in
      rw (set-read (at 0 sets (suc i)) (names_more n (at 0 sets (suc i)) a.high named))

  -- one set more, in the place of a 0
  kept_more : (i : ℕ) → i < n → put (kept_sets i sets) (suc i) (at 0 sets (suc i)) ≡ kept_sets (suc i) sets
  unfolding put at kept_sets
  kept_more i h =
      let long = a.long in
      let high = a.high in
      let room : site_limit - i ≡ suc (site_limit - suc i) = omega arith in
      rw room (padded-more sets i (site_limit - suc i) (omega arith))

  kept-twice : kept_sets n (kept_sets n sets) ≡ kept_sets n sets
  unfolding kept_sets
  kept-twice =
      let long = a.long in
      let high = a.high in
      rw (take_at (take n sets) (replicate (site_limit - n) 0) n (length-take-le n sets (omega arith)))

  -- the line `sites=`, a line `set=`, the last one
  read-size : on_line start (sites_bytes n) ≡ outcome [] (behind n sets 0)
  unfolding size_in on_size kept_sets start
  read-size =
      line-size start (sites_bytes n) refl
      ∙ rw (sites-read n (omega (arith, a.high)), size-listed n a.low a.high, count_small 0 (omega arith))

  read_set : (i : ℕ) → suc i < n → on_line (behind n sets i) (set_bytes (at 0 sets (suc i))) ≡ outcome [] (behind n sets (suc i))
  unfolding on_set
  read_set i h =
      let high = a.high in
      line_set (behind n sets i) (set_bytes (at 0 sets (suc i))) refl
      ∙ rw (set-meant i (omega arith), add-one, kept_more i (omega arith), lt-ltb (suc i) n h, count_small (suc i) (omega arith))

  read-last : (i : ℕ) → suc i ≡ n → setup_code n sets ≡ 0 → on_line (behind n sets i) (set_bytes (at 0 sets (suc i))) ≡ outcome [] (ready n sets)
  unfolding on_set all_given ready fresh fresh_tables fresh_rig
  read-last i e z =
      let high = a.high in
      let least : n ≤ suc i = omega arith in
      line_set (behind n sets i) (set_bytes (at 0 sets (suc i))) refl
      ∙ rw (set-meant i (omega arith), add-one, kept_more i (omega arith), le-ltb (suc i) n least, e, kept-code n sets a ∙ z, kept-twice, count_small n high)

  read-refused : (i : ℕ) → suc i ≡ n → setup_code n sets ≡ 17 → on_line (behind n sets i) (set_bytes (at 0 sets (suc i))) ≡ stopped (behind n sets i) 17 (fault_line n sets)
  unfolding on_set all_given
  read-refused i e z =
      let least : n ≤ suc i = omega arith in
      line_set (behind n sets i) (set_bytes (at 0 sets (suc i))) refl
      ∙ rw (set-meant i (omega arith), add-one, kept_more i (omega arith), le-ltb (suc i) n least, e, kept-code n sets a ∙ z, kept_line n sets a)

  -- one line `set=` more
  read_more : (i : ℕ) (o : Outcome) → on_line (behind n sets i) (set_bytes (at 0 sets (suc i))) ≡ o
      → ((rest : List ℕ) → transcript (behind n sets 0) [] (set_texts sets i ++ rest) ≡ transcript (behind n sets i) [] rest)
      → (rest : List ℕ) → transcript (behind n sets 0) [] (set_texts sets (suc i) ++ rest) ≡ o.said ++ transcript o.next [] rest
  unfolding set_texts set_text
  read_more i o e before rest =
      let set = at 0 sets (suc i) in
      rw (append_assoc (set_texts sets i) (set_text set) rest)
      (before (set_text set ++ rest) ∙ whole-line (behind n sets i) o (set_bytes set) rest (set-one-line set) e)

  read-sets : (i : ℕ) → i < n → (rest : List ℕ) → transcript (behind n sets 0) [] (set_texts sets i ++ rest) ≡ transcript (behind n sets i) [] rest
  unfolding set_texts
  read-sets zero h rest = refl
  read-sets (suc i) h rest = read_more i (outcome [] (behind n sets (suc i))) (read_set i h) (read-sets i (omega arith)) rest

  read_all : (i : ℕ) → suc i ≡ n → (rest : List ℕ) → transcript (behind n sets 0) [] (set_texts sets (suc i) ++ rest) ≡ played_behind n sets rest
  unfolding played_behind stopped
  read_all i e rest =
      ⊎_elim
      (λ z. rw z (read_more i (outcome [] (ready n sets)) (read-last i e z) (read-sets i (omega arith)) rest))
      (λ z. rw z (read_more i (stopped (behind n sets i) 17 (fault_line n sets)) (read-refused i e z) (read-sets i (omega arith)) rest
      ∙ rw (transcript-over (stopped (behind n sets i) 17 (fault_line n sets)).next [] rest refl) (append-nil (stop_line 17 (fault_line n sets)))))
      (zero-or-17 n sets (accepted-meeting n sets a))

-- The text of sets that meet, whatever follows.
pub read_behind : (n : ℕ) (sets : List ℕ) → meeting_code n sets ≡ 0 → (rest : List ℕ) → output (setup_text n sets ++ rest) ≡ played_behind n sets rest
unfolding output setup_text sites_text
read_behind n sets h rest =
    let a = meeting n sets h in
    let e : suc (n - 1) ≡ n = omega (arith, a.low) in
    rw (append_assoc (sites_text n) (set_texts sets n) rest)
    (whole-line start (outcome [] (behind n sets 0)) (sites_bytes n) (set_texts sets n ++ rest) (sites-one-line n) (read-size n sets a)
    ∙ rw e at (read_all n sets a (n - 1) e rest))

-- Setup accepts them.
pub set-up : (n : ℕ) (sets : List ℕ) → setup_code n sets ≡ 0 → (rest : List ℕ) → output (setup_text n sets ++ rest) ≡ transcript (ready n sets) [] rest
unfolding played_behind
set-up n sets h rest = read_behind n sets (setup-meeting n sets h) rest ∙ rw h
