-- The player prints whole lines, and the last one is the last of those that a call writes.
use Prim.Native.Nat.{ℕ, suc, ◌+◌, ◌-◌, ◌≤◌, ◌<◌}
use mathlib.Core.Bool.{Bool, true, false, cond}
use mathlib.Core.List.{List, [], ◌∷◌, ◌++◌}
use Rattle.std.specs.Prelude.{Option, Some, None}
use mathlib.Core.Path.{◌≡◌, refl, ◌∙◌}
use native.Mathlib.Numerals.{add-one}
use native.Mathlib.Omega.{arith}
use lib.Dec.{eqb, leb, ltb}
use lib.ListN.{length, take, drop, get_or, length-append, length-drop, drop_of_length-le}
use lib.Seq.{take-suc, take_all, drop-cons, get_or-drop}
use Rattle.basics.proofs.Basics.{by_bool, clash}
use Rattle.rig.specs.declared.Event.{Event}
use Rattle.model.specs.Tables.{put}
use Rattle.model.specs.Setup.{size_listed, setup_code}
use Rattle.player_bytes.specs.Decimal.{decimal}
use Rattle.player_grammar.specs.declared.Line.{Line}
use Rattle.player_grammar.specs.Grammar.{line_limit, meaning_of}
use Rattle.player_printing.specs.Printing.{step_word, code_word, inside_word, waiting_word, flying_word, stop_word, line_word, step_line, stop_line}
use Rattle.player_text.specs.declared.Stage.{Stage}
use Rattle.player_text.specs.declared.Stage.TheVariants.{Size, Sets, Events, Over}
use Rattle.player_text.specs.Player.{Text, Outcome, stopped, size_in, set_in, event_in, on_size, all_given, on_set, printed_line, on_event, at_stage, on_line}
use Rattle.player_parts.specs.Parts.{Part, said_before, reads}
use Rattle.player_state.specs.State.{over_at}
use Rattle.state_text.specs.State.{last_from, last_line}

-- whether bytes end with the end of a line, where those before them did
unfoldable pub ended_by : Bool → List ℕ → Bool
ended_by ended [] = ended
ended_by ended (b ∷ bs) = ended_by (eqb b 10) bs

-- whole lines, or nothing
abbrev pub Whole : List ℕ → Type 0
Whole bs = ended_by true bs ≡ true

ended-more : (e : Bool) (xs ys : List ℕ) → ended_by e (xs ++ ys) ≡ ended_by (ended_by e xs) ys
unfolding ended_by
ended-more e [] ys = refl
ended-more e (x ∷ xs) ys = ended-more (eqb x 10) xs ys

pub whole-more : (xs ys : List ℕ) → Whole xs → Whole ys → Whole (xs ++ ys)
whole-more xs ys a b = ended-more true xs ys ∙ rw (a, b)

-- a line: whatever stands before it, it ends with its byte 10
abbrev OneLine : List ℕ → Type 0
OneLine bs = (e : Bool) → ended_by e bs ≡ true

line-end : OneLine (10 ∷ [])
unfolding ended_by
line-end e = refl

behind : (xs ys : List ℕ) → OneLine ys → OneLine (xs ++ ys)
behind xs ys o e = ended-more e xs ys ∙ o (ended_by e xs)

step-one : (a b c d e : ℕ) → OneLine (step_line a b c d e)
unfolding step_line
step-one a b c d e = behind (step_word ++ decimal a) _ (behind (code_word ++ decimal b) _ (behind (inside_word ++ decimal c) _ (behind (waiting_word ++ decimal d) _ (behind (flying_word ++ decimal e) (10 ∷ []) line-end))))

stop-one : (code line : ℕ) → OneLine (stop_line code line)
unfolding stop_line
stop-one code line = behind (stop_word ++ decimal code) _ (behind (line_word ++ decimal line) (10 ∷ []) line-end)

stop-some : (code line : ℕ) → 1 ≤ length (stop_line code line)
unfolding stop_line
stop-some code line = simp length-append (omega arith)

-- What a line prints: whole lines, and something where it ends the run.
pub record Prints (p : Text) (o : Outcome) : Type 0 where
  pub whole : Whole o.said
  pub stops : over_at p.stage ≡ false → over_at o.next.stage ≡ true → 1 ≤ length o.said

whole-none : Whole []
unfolding ended_by
whole-none = refl

stop-prints : (p q : Text) (code line : ℕ) → Prints p (stopped q code line)
unfolding stopped
stop-prints p q code line = record { whole = stop-one code line true; stops = λ a b. stop-some code line }

size-prints : (p : Text) (m : Option ℕ) → Prints p (on_size p m)
unfolding on_size
size-prints p None = stop-prints p p 11 _
size-prints p (Some n) =
    by_bool (size_listed n)
    (λ e. rw e (record { whole = whole-none; stops = λ a b. clash false b refl }))
    (λ e. rw e (stop-prints p p 1 _))

set-prints : (p : Text) (m : Option ℕ) → Prints p (on_set p m)
unfolding on_set all_given
set-prints p None = stop-prints p p 11 _
set-prints p (Some set) =
    by_bool (ltb (p.given + 1) p.size)
    (λ e. rw e (record { whole = whole-none; stops = λ a b. clash false b refl }))
    (λ e. by_bool (eqb (setup_code p.size (put p.sets (p.given + 1) set)) 0)
    (λ f. rw (e, f) (record { whole = whole-none; stops = λ a b. clash false b refl }))
    (λ f. rw (e, f) (stop-prints p p _ _)))

event-prints : (p : Text) (m : Option Event) → Prints p (on_event p m)
unfolding on_event printed_line
event-prints p None = stop-prints p p 11 _
event-prints p (Some e) = record { whole = step-one _ _ _ _ _ true; stops = λ a b. clash false b refl }

stage-prints : (s : Stage) (p : Text) (m : Option Line) → p.stage ≡ s → Prints p (at_stage s p m)
unfolding at_stage
stage-prints Size p m e = size-prints p (size_in m)
stage-prints Sets p m e = set-prints p (set_in m)
stage-prints Events p m e = event-prints p (event_in m)
stage-prints Over p m e = record { whole = whole-none; stops = λ a b. clash true refl (rw e at a) }

line-prints : (p : Text) (line : List ℕ) → Prints p (on_line p line)
unfolding on_line
line-prints p line = stage-prints p.stage p (meaning_of line) refl

-- What a part prints, likewise.
pub record PartPrints (p : Text) (r : Part) : Type 0 where
  pub whole : Whole r.said
  pub stops : over_at p.stage ≡ false → over_at r.next.stage ≡ true → 1 ≤ length r.said

-- a line, and what follows it
joined : (p : Text) (o : Outcome) (r : Part) → Prints p o → PartPrints o.next r → PartPrints p (said_before o.said r)
joined p o r a b = record {
  whole = whole-more o.said r.said a.whole b.whole;
  stops = λ e f. rw (length-append o.said r.said)
      (by_bool (over_at o.next.stage)
      (λ g. let l = a.stops e g in omega arith)
      (λ g. let l = b.stops g f in omega arith));
}

pub reads-prints : (p : Text) (line bs : List ℕ) → PartPrints p (reads p line bs)
unfolding reads
reads-prints p line [] = record { whole = whole-none; stops = λ a b. clash (over_at p.stage) b a }
reads-prints p line (b ∷ bs) =
    by_bool (eqb b 10)
    (λ e. rw e (joined p (on_line p line) _ (line-prints p line) (reads-prints (on_line p line).next [] bs)))
    (λ e. by_bool (leb (length (line ++ (b ∷ []))) line_limit)
    (λ f. rw (e, f) (reads-prints p (line ++ (b ∷ [])) bs))
    (λ f. rw (e, f) (joined p (on_line p (line ++ (b ∷ []))) _ (line-prints p (line ++ (b ∷ []))) (reads-prints (on_line p (line ++ (b ∷ []))).next [] bs))))

-- The last line of bytes behind whole lines is their own, if there are any.
last-ended : (line : List ℕ) (b : ℕ) (bs : List ℕ) → last_from line true (b ∷ bs) ≡ last_line (b ∷ bs)
unfolding last_line last_from
last-ended line b bs = refl

last-behind : (line : List ℕ) (e : Bool) (xs ys : List ℕ) → ended_by e xs ≡ true → 1 ≤ length ys → last_from line e (xs ++ ys) ≡ last_line ys
unfolding last_from ended_by
last-behind line e [] [] a h = absurd (omega arith)
last-behind line e [] (y ∷ ys) a h = rw a (last-ended line y ys)
last-behind line e (x ∷ xs) ys a h = last-behind (cond e [] line ++ (x ∷ [])) (eqb x 10) xs ys a h

pub last_line_lem : (xs ys : List ℕ) → Whole xs → 1 ≤ length ys → last_line (xs ++ ys) ≡ last_line ys
unfolding last_line
last_line_lem xs ys a h = last-behind [] true xs ys a h

pub start-within : (ended : Bool) (start i : ℕ) → start ≤ i → cond ended i start ≤ i
start-within true start i h = omega arith
start-within false start i h = h

-- The same byte by byte: the present line stands from place `start` on, up to place i.
module _ (bytes : List ℕ) where
  pub last-begun : last_from (take (0 - 0) (drop 0 bytes)) true (drop 0 bytes) ≡ last_line bytes
  unfolding last_line
  last-begun = refl

  pub last_more : (start i : ℕ) (ended : Bool) → start ≤ i → i < length bytes
      → last_from (take (i - start) (drop start bytes)) ended (drop i bytes)
      ≡ last_from (take (i + 1 - cond ended i start) (drop (cond ended i start) bytes)) (eqb (get_or bytes i 0) 10) (drop (i + 1) bytes)
  unfolding last_from
  last_more start i true a h =
      let e : i + 1 - i ≡ 1 = omega arith in
      rw (e, add-one, drop-cons bytes i 0 h)
  last_more start i false a h =
      let e : i + 1 - start ≡ suc (i - start) = omega arith in
      let p : start + (i - start) ≡ i = omega arith in
      let l : i - start < length (drop start bytes) = rw (length-drop start bytes) (omega arith) in
      let g : get_or (drop start bytes) (i - start) 0 ≡ get_or bytes i 0 = rw p at (get_or-drop start bytes (i - start) 0) in
      rw (e, take-suc (drop start bytes) (i - start) 0 l, g, add-one, drop-cons bytes i 0 h)

  pub last_done : (start i : ℕ) (ended : Bool) → start ≤ i → i ≡ length bytes
      → last_from (take (i - start) (drop start bytes)) ended (drop i bytes) ≡ drop start bytes
  unfolding last_from
  last_done start i ended a h =
      rw (drop_of_length-le bytes {i = i} (omega arith)) (take_all (i - start) (drop start bytes) (rw (length-drop start bytes) (omega arith)))
