-- Runs with breaks: a break leaves a state that differs past the messages under way at most, so that demand 3 of the run without breaks is that of
-- the run with them.
use Prim.Native.Nat.{ℕ, ◌+◌}
use mathlib.Core.Path.{◌≡◌, refl, sym, ◌∙◌, ap}
use mathlib.Core.Logic.{◌⊎◌, inl, inr, ⊎_elim}
use mathlib.Core.Bool.{true, false}
use mathlib.Core.List.{List, [], ◌∷◌, ◌++◌}
use native.Mathlib.Omega.{arith}
use lib.Dec.{eqb, ltb}
use lib.ListN.{length, drop, length-take}
use lib.Seq.{take-append_seam, take_at, length-take-le}
use borrow.Author.Tests.{eqb-true, eq-eqb, ltb-false, le-ltb}
use Rattle.basics.proofs.Basics.{by_bool}
use Rattle.rig.specs.declared.Event.{Event}
use Rattle.rig.specs.declared.Message.{Message}
use Rattle.rig.specs.Limits.{message_limit}
use Rattle.model.specs.Setup.{setup_code}
use Rattle.model.specs.State.{Stored, under_way}
use Rattle.model.specs.Shape.{well_shaped}
use Rattle.model.specs.Event.{Answer, answer, padded, event}
use Rattle.model.specs.Run.{fresh}
use Rattle.model.specs.Losses.{lost, with_lost, Move, happens, loses, moved, run_with_losses, SoundWithLosses, ShapedWithLosses}
use Rattle.model.specs.Printed.{line_of, printed}
use Rattle.model.proofs.Codes.{padded-long, event-long}
use Rattle.model.proofs.Shaped.{shaped}
use Rattle.model.proofs.Lost.{length-lost, take-lost}
use Rattle.model.proofs.Theorem.{sound-with-losses}
use Rattle.model.proofs.Always.{shaped-with-losses}
use Rattle.save_text.specs.Text.{text_of}
use Rattle.save_text.specs.Calls.{list_long, stored_in, written, or_refused, read_into}
use Rattle.save_text.specs.Claims.{IsState, kept, ReadBack}
use Rattle.save_text.proofs.ReadBack.{read_back}
use Rattle.save_runs.specs.Breaks.{Act, moves, pauses, saved_in, or_saved, after_reading, after_break, after, run_with_breaks, SoundWithBreaks, moves_in, codes_of, codes, codes_with_breaks, SameState, BreaksUnseen, Taken, BreaksTaken, LinesKept}
use Rattle.save_runs.proofs.Same.{same_self, same-trans, sound-same, shaped-same, event-same}
use Rattle.save_runs.proofs.Sizes.{state-same, event-state, lost-state, fresh-state}

-- "Reading puts 0 past the messages"

pub kept_same : (s : Stored) → IsState s → well_shaped s ≡ true → SameState (kept s) s
unfolding kept padded
kept_same s h w =
    let few = (shaped s w).few in
    record { tables = refl; count = refl; messages = take_at (under_way s) _ s.count (length-take-le s.count s.list (omega (arith, h.list))) }

pub kept-long : (s : Stored) → IsState s → length (kept s).list ≡ message_limit
unfolding kept
kept-long s h = padded-long (under_way s) (rw (length-take s.count s.list) (omega (arith, h.list)))

-- A list of another length: every break is refused.

short-break : (s : Stored) (buffer : List ℕ) (lent : Stored) → eqb (length s.list) message_limit ≡ false → after_break s buffer lent ≡ s
unfolding after_break after_reading written
short-break s buffer lent short = rw short

short-moved : (s : Stored) (m : Move) → eqb (length s.list) message_limit ≡ false → eqb (length (moved s m).list) message_limit ≡ false
unfolding moved event with_lost
short-moved s (happens e) short = let same : (event s e).next ≡ s = rw short in rw same short
short-moved s (loses p) short = rw (length-lost p s.list) short

short-run : (acts : List Act) (s : Stored) → eqb (length s.list) message_limit ≡ false → run_with_breaks s acts ≡ run_with_losses s (moves_in acts)
unfolding run_with_breaks after run_with_losses moves_in
short-run [] s short = refl
short-run (moves m ∷ acts) s short = short-run acts (moved s m) (short-moved s m short)
short-run (pauses buffer lent ∷ acts) s short = rw (short-break s buffer lent short) (short-run acts s short)

-- a run with breaks beside one without: the same tables, count and messages under way, and both on lists of 1,024 entries
pub record Beside (s t : Stored) : Type 0 where
  pub same : SameState s t
  pub state : IsState t
  pub long : length s.list ≡ message_limit

pub beside-state : {s t : Stored} → Beside s t → IsState s
beside-state {s} {t} b = state-same b.same b.long b.state

-- a refused reading changes nothing
refused-stays : (s lent : Stored) → or_saved s (answer 13 lent) ≡ s
unfolding or_saved
refused-stays s lent = refl

-- what is read is what was written
saved-text : (text rest : List ℕ) → saved_in (record { code = 0; size = length text; buffer = text ++ rest }) ≡ text
unfolding saved_in
saved-text text rest = take-append_seam text rest

break-taken : (s : Stored) → IsState s → well_shaped s ≡ true → Taken s
unfolding ReadBack after_break after_reading or_saved written stored_in read_into or_refused
break-taken s h w buffer lent fits long =
    rw (
      eq-eqb _ message_limit h.list,
      w,
      le-ltb _ _ fits,
      saved-text (text_of s) (drop (length (text_of s)) buffer),
      eq-eqb _ message_limit long,
      read_back s h w,
    )

-- a break is refused or taken
break-either : (s : Stored) (buffer : List ℕ) (lent : Stored) → IsState s → (after_break s buffer lent ≡ s) ⊎ ((well_shaped s ≡ true) × (after_break s buffer lent ≡ kept s))
unfolding after_break after_reading written stored_in read_into
break-either s buffer lent h =
    by_bool (well_shaped s)
    (λ w. by_bool (ltb (length buffer) (length (text_of s)))
    (λ b. inl (rw (eq-eqb _ message_limit h.list, w, b)))
    (λ b. by_bool (list_long lent)
    (λ c. inr (w, break-taken s h w buffer lent (ltb-false _ _ b) (eqb-true _ message_limit c)))
    (λ c. inl (rw (eq-eqb _ message_limit h.list, w, b, c) (refused-stays s lent)))))
    (λ w. inl (rw (eq-eqb _ message_limit h.list, w)))

break-beside : {s t : Stored} (buffer : List ℕ) (lent : Stored) → Beside s t → Beside (after_break s buffer lent) t
break-beside {s} {t} buffer lent b =
    let h = beside-state b in
    ⊎_elim
    (λ e. rw e b)
    (λ e. rw e.1 (record { same = same-trans (kept_same s h e.0) b.same; state = b.state; long = kept-long s h }))
    (break-either s buffer lent h)

event-beside : {s t : Stored} (e : Event) → Beside s t → ((event s e).code ≡ (event t e).code) × Beside (event s e).next (event t e).next
event-beside {s} {t} e b =
    let n = event-same b.same b.long b.state.list e in
    (n.0, record { same = n.1; state = event-state t b.state e; long = event-long s e b.long })

moved-beside : {s t : Stored} (m : Move) → Beside s t → (codes_of s m ≡ codes_of t m) × Beside (moved s m) (moved t m)
unfolding moved codes_of with_lost
moved-beside (happens e) b = let n = event-beside e b in ((λ i. (n.0 i) ∷ []), n.1)
moved-beside {s} {t} (loses p) b = (
  refl,
  record {
    same = record { tables = b.same.tables; count = b.same.count; messages = take-lost p s.count s.list ∙ ap (lost p) b.same.messages ∙ sym (take-lost p t.count t.list) };
    state = lost-state p t b.state;
    long = length-lost p s.list ∙ b.long;
  },
)

pub moves-beside : (ms : List Move) {s t : Stored} → Beside s t → Beside (run_with_losses s ms) (run_with_losses t ms)
unfolding run_with_losses
moves-beside [] b = b
moves-beside (m ∷ ms) b = moves-beside ms (moved-beside m b).1

pub breaks-beside : (acts : List Act) {s t : Stored} → Beside s t → Beside (run_with_breaks s acts) (run_with_losses t (moves_in acts)) × (codes_with_breaks s acts ≡ codes t (moves_in acts))
unfolding run_with_breaks after run_with_losses moves_in codes_with_breaks codes
breaks-beside [] b = (b, refl)
breaks-beside (moves m ∷ acts) b =
    let n = moved-beside m b in
    let r = breaks-beside acts n.1 in
    (r.0, λ i. n.0 i ++ r.1 i)
breaks-beside (pauses buffer lent ∷ acts) b = breaks-beside acts (break-beside buffer lent b)

pub self-beside : (s : Stored) → IsState s → Beside s s
self-beside s h = record { same = same_self s; state = h; long = h.list }

pub breaks-unseen : BreaksUnseen
unfolding BreaksUnseen
breaks-unseen s acts h = let r = breaks-beside acts (self-beside s h) in (r.0.same, r.1)

fresh-beside : (n : ℕ) (sets : List ℕ) (list : List Message) (acts : List Act) → setup_code n sets ≡ 0 → length list ≡ message_limit → Beside (run_with_breaks (fresh n sets list) acts) (run_with_losses (fresh n sets list) (moves_in acts))
fresh-beside n sets list acts e long = (breaks-beside acts (self-beside _ (fresh-state n sets list e long))).0

pub breaks-taken : BreaksTaken
unfolding BreaksTaken ShapedWithLosses
breaks-taken n sets list acts e long =
    let b = fresh-beside n sets list acts e long in
    break-taken _ (beside-state b) (shaped-same b.same ∙ shaped-with-losses n sets list (moves_in acts) e)

pub sound-with-breaks : SoundWithBreaks
unfolding SoundWithBreaks SoundWithLosses fresh
sound-with-breaks n sets list acts e =
    by_bool (eqb (length list) message_limit)
    (λ b. sound-same (fresh-beside n sets list acts e (eqb-true _ message_limit b)).same (sound-with-losses n sets list (moves_in acts) e))
    (λ b. rw (short-run acts (fresh n sets list) b) (sound-with-losses n sets list (moves_in acts) e))

-- The lines that are printed: a line reads the code, the rig and the count.

line_same : (place : ℕ) (a b : Answer) → a.code ≡ b.code → SameState a.next b.next → line_of place a ≡ line_of place b
unfolding line_of
line_same place a b c h = rw (c, h.tables, h.count)

lines-beside : (es : List Event) (place : ℕ) {s t : Stored} → Beside s t → printed place s es ≡ printed place t es
unfolding printed
lines-beside [] place b = refl
lines-beside (e ∷ es) place {s} {t} b =
    let n = event-beside e b in
    let l = line_same place (event s e) (event t e) n.0 n.1.same in
    let r = lines-beside es (place + 1) n.1 in
    λ i. (l i) ∷ (r i)

pub lines-kept : LinesKept
unfolding LinesKept
lines-kept s place es h w = lines-beside es place (record { same = kept_same s h w; state = h; long = kept-long s h })
