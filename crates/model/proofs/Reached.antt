-- Every state of a run is one of the machine: a refused event changes nothing, and an accepted one is a step of the machine.
use Prim.Native.Nat.{ℕ, ◌+◌, ◌-◌, ◌≤◌, ◌<◌}
use mathlib.Core.Path.{◌≡◌, refl, sym, ◌∙◌, ap}
use mathlib.Core.Logic.{◌⊎◌, ◌≢◌, inl, inr, ⊎_elim}
use mathlib.Core.Bool.{Bool, true, false, not, ◌||◌, cond}
use mathlib.Core.List.{List, [], ◌∷◌, ◌++◌, map}
use mathlib.Core.Option.{Option, none, some}
use native.Mathlib.Omega.{arith}
use lib.Dec.{eqb, leb, ltb}
use lib.ListN.{length, replicate, length-append}
use lib.Seq.{take-append_seam}
use borrow.Author.Tests.{eqb-true, eqb-false, ne_eqb, le-leb, leb-false, ltb-false}
use Rattle.basics.specs.Helpers.{tally, first, without_first, All}
use Rattle.basics.proofs.Basics.{by_bool, clash, or-none}
use Rattle.basics.proofs.Lists.{tally-snoc-yes, tally-snoc-no, all_append}
use Rattle.rig.specs.declared.Desk.{Desk}
use Rattle.rig.specs.declared.Message.{Message}
use Rattle.rig.specs.declared.Event.{Event}
use Rattle.rig.specs.declared.Event.TheVariants.{Ask, Leave, Deliver}
use Rattle.rig.specs.declared.Mode.{Mode}
use Rattle.rig.specs.declared.Mode.TheVariants.{Rest, Waiting, Inside}
use Rattle.rig.specs.Limits.{site_limit, message_limit, event_limit}
use Rattle.protocol.specs.System.{System}
use Rattle.protocol.specs.Rig as R
use Rattle.protocol.proofs.Numbers.{is_counted}
use Rattle.model.specs.Tables.{at}
use Rattle.model.specs.State.{Tables, Stored, under_way, size_of, sets_of, in_range, mode_of, is_resting, is_inside, desk_of, with_desk, with_accepted}
use Rattle.model.specs.Desk.{Effect}
use Rattle.model.specs.Deliver.{between, delivered}
use Rattle.model.specs.Shape.{message_shaped, well_shaped}
use Rattle.model.specs.Event.{actor, sites_named, Attempt, refused, possible, taken_off, attempt, attempted, numbers_fit, limit_code, effect_code, blank_message, padded, accepted_state, judged, event_at, settled, played, tested, Answer, event}
use Rattle.model.specs.Run.{run}
use Rattle.model.specs.Losses as L
use Rattle.model.specs.Losses.{happens, loses, with_lost, run_with_losses}
use Rattle.model.proofs.Machine.{system_of, sent_of, rig_of, Sized, DeskSized, desk-sized, sized-desk, rests-same, inside-same}
use Rattle.model.proofs.Lawful.{system_from}
use Rattle.model.proofs.Shaped.{Shaped, shaped, within, ends}
use Rattle.model.proofs.AskLeave.{ask-same, leave_same}
use Rattle.model.proofs.Delivered.{step-delivers, first-shaped, delivered-same}
use Rattle.model.proofs.Plain.{Plain, AllPlain, asked-plain, left-plain, delivered-plain}
use Rattle.model.proofs.Lost.{take-lost, sent-lost, plain-lost}
use Rattle.model.proofs.DeskSizes.{asked-sized, left-sized, delivered-sized}

-- one event more
run_more : (y : System) (es : List R.Event) (e : R.Event) (r : R.Rig) → R.run y (es ++ e ∷ []) r ≡ R.step y (R.run y es r) e
unfolding R.run
run_more y [] e r = refl
run_more y (x ∷ es) e r = run_more y es e (R.step y r x)

-- a state as the machine's
abbrev pub machine_of : Stored → R.Rig
machine_of s = rig_of s.tables (under_way s)

-- a state of the definitions, of n sites with the sets l, that is the machine's after some events
pub record Reached (n : ℕ) (l : List ℕ) (s : Stored) : Type 0 where
  pub events : List R.Event
  pub same : machine_of s ≡ R.run (system_from n l) events R.fresh
  pub counted : s.tables.rig.accepted ≡ tally is_counted events
  pub size : size_of s.tables ≡ n
  pub sets : s.tables.rig.sets ≡ l
  pub sized : Sized s.tables
  pub few : s.count ≤ message_limit
  pub bounded : s.tables.rig.accepted ≤ event_limit
  pub plain : AllPlain (under_way s)

system-same : (t : Tables) (n : ℕ) (l : List ℕ) → size_of t ≡ n → t.rig.sets ≡ l → system_of t ≡ system_from n l
system-same t n l p q = λ i. system_from (p i) (q i)

-- what a code of 0 says of the list and of the count of events
pub room : (n clock grant : ℕ) (sent : List Message) (rest : ℕ) → limit_code n clock grant sent rest ≡ 0 → (rest + length sent ≤ message_limit) × (n < event_limit)
unfolding limit_code
room n clock grant sent rest h =
    by_bool (leb event_limit n || not (numbers_fit clock grant sent))
    (λ a. let x : ◌≡◌ {A = ℕ} 9 0 = rw a at h in absurd (omega arith))
    (λ a. by_bool (ltb message_limit (rest + length sent))
    (λ b. let x : ◌≡◌ {A = ℕ} 8 0 = rw (a, b) at h in absurd (omega arith))
    (λ b. (ltb-false _ _ b, leb-false event_limit n (or-none _ _ a).0)))

-- the list without a message
plain-rest : (p : Message → Bool) (ms : List Message) → AllPlain ms → AllPlain (without_first p ms)
unfolding without_first All
plain-rest p [] a = a
plain-rest p (m ∷ ms) a = by_bool (p m) (λ e. rw e a.1) (λ e. rw e (a.0, plain-rest p ms a.1))

is-inside : (m : Mode) → is_inside m ≡ true → m ≡ Inside
is-inside Rest e = clash false e refl
is-inside (Waiting a f) e = clash false e refl
is-inside Inside e = refl

-- the delivery, by the receiver's name
at-receiver : (s : Stored) (z : Sized s.tables) (sh : Shaped s) (m : Message) (e : message_shaped (size_of s.tables) (sets_of s.tables) m ≡ true) (rest : List Message) (b : ℕ) → b ≡ m.to
    → rig_of (with_desk s.tables b (delivered (desk_of s.tables b) m).desk) (rest ++ (delivered (desk_of s.tables b) m).sent) ≡ R.delivered (system_of s.tables) (rig_of s.tables (under_way s)) (map sent_of rest) (sent_of m).arbiter (sent_of m).message
at-receiver s z sh m e rest b q = rw q (delivered-same s z sh m e rest (under_way s))

-- the machine's event
abbrev pub step_of : Event → R.Event
step_of (Ask k) = R.ask k
step_of (Leave k) = R.leave k
step_of (Deliver a b) = R.deliver a b

step-counted : (v : Event) → is_counted (step_of v) ≡ true
step-counted (Ask k) = refl
step-counted (Leave k) = refl
step-counted (Deliver a b) = refl

-- What an attempt of the event v would do, where the machine does the same.
pub record Stepped (s : Stored) (v : Event) (e : Effect) (rest : List Message) : Type 0 where
  pub low : 1 ≤ actor v
  pub high : actor v ≤ site_limit
  pub sized : DeskSized e.desk
  pub rests : AllPlain rest
  pub sends : AllPlain e.sent
  pub same : rig_of (with_desk s.tables (actor v) e.desk) (rest ++ e.sent) ≡ R.step (system_of s.tables) (rig_of s.tables (under_way s)) (step_of v)

-- An attempt is refused, not with 0 or 9, or is such a step.
abbrev pub Steps : Stored → Event → Attempt → Type 0
Steps s v (refused c) = (c ≢ 0) × (c ≢ 9)
Steps s v (possible e rest) = Stepped s v e rest

either-steps : (s : Stored) (v : Event) (b : Bool) (x y : Attempt) → (b ≡ true → Steps s v x) → Steps s v y → Steps s v (cond b x y)
either-steps s v true x y f m = f refl
either-steps s v false x y f m = m

module _ (n : ℕ) (l : List ℕ) (s : Stored) (r : Reached n l s) (w : well_shaped s ≡ true) where
  abbrev t : Tables
  t = s.tables

  abbrev ms : List Message
  ms = under_way s

  ask-steps : (k : ℕ) → in_range (size_of t) k ≡ true → Steps s (Ask k) (attempt (desk_of t k) ms (Ask k))
  unfolding actor attempt desk_of R.step
  ask-steps k i =
      let b = within (size_of t) k i in
      let hi : k ≤ site_limit = omega (arith, b.1, r.sized.size) in
      either-steps s (Ask k) (is_resting (mode_of t k)) _ _
      (λ e. record {
        low = b.0;
        high = hi;
        sized = asked-sized _ (desk-sized t k r.sized b.0 hi);
        rests = r.plain;
        sends = asked-plain _;
        same = ask-same t r.sized k b.0 hi ms ∙ sym (rw (le-leb 1 k b.0, le-leb k (size_of t) b.1, rests-same (mode_of t k), e));
      })
      (omega arith, omega arith)

  leave-steps : (k : ℕ) → in_range (size_of t) k ≡ true → Steps s (Leave k) (attempt (desk_of t k) ms (Leave k))
  unfolding actor attempt desk_of R.step
  leave-steps k i =
      let b = within (size_of t) k i in
      let hi : k ≤ site_limit = omega (arith, b.1, r.sized.size) in
      either-steps s (Leave k) (is_inside (mode_of t k)) _ _
      (λ e. record {
        low = b.0;
        high = hi;
        sized = left-sized _ (desk-sized t k r.sized b.0 hi);
        rests = r.plain;
        sends = left-plain _;
        same = leave_same t r.sized k b.0 hi ms (is-inside _ e) ∙ sym (rw (inside-same (mode_of t k), e));
      })
      (omega arith, omega arith)

  deliver-steps : (a b : ℕ) (o : Option Message) → first (between a b) ms ≡ o → Steps s (Deliver a b) (taken_off (desk_of t b) o (without_first (between a b) ms))
  unfolding actor taken_off
  deliver-steps a b none e = (omega arith, omega arith)
  deliver-steps a b (some m) e =
      let rest = without_first (between a b) ms in
      let sh = shaped s w in
      let mp = first-shaped (size_of t) (sets_of t) a b ms m sh.messages e in
      let to = (ends s sh m mp.0).1 in
      let q = mp.1 in
      let lo : 1 ≤ b = omega (arith, q, to.low) in
      let hi : b ≤ site_limit = omega (arith, q, to.high) in
      record {
        low = lo;
        high = hi;
        sized = delivered-sized _ m (desk-sized t b r.sized lo hi);
        rests = plain-rest (between a b) ms r.plain;
        sends = delivered-plain _ m;
        same = at-receiver s r.sized sh m mp.0 rest b q ∙ sym (step-delivers t ms a b m e);
      }

  attempt-steps : (e : Event) → sites_named (size_of t) e ≡ true → Steps s e (attempt (desk_of t (actor e)) ms e)
  unfolding sites_named actor attempt
  attempt-steps (Ask k) i = ask-steps k i
  attempt-steps (Leave k) i = leave-steps k i
  attempt-steps (Deliver a b) i = deliver-steps a b (first (between a b) ms) refl

  pub attempted-steps : (e : Event) → Steps s e (attempted (desk_of t (actor e)) ms e)
  unfolding attempted desk_of
  attempted-steps e =
      by_bool (sites_named (size_of t) e)
      (λ c. rw c (attempt-steps e c))
      (λ c. rw c ((λ x. omega (arith, x)), (λ x. omega (arith, x))))

module _ (n : ℕ) (l : List ℕ) where
  -- the machine's next state, by the family's own sets
  pub stepped : (s : Stored) (v : Event) (e : Effect) (rest : List Message) → Reached n l s → Stepped s v e rest
      → rig_of (with_desk s.tables (actor v) e.desk) (rest ++ e.sent) ≡ R.step (system_from n l) (rig_of s.tables (under_way s)) (step_of v)
  stepped s v e rest r h = h.same ∙ ap (λ (y : System). R.step y (rig_of s.tables (under_way s)) (step_of v)) (system-same s.tables n l r.size r.sets)

  -- the state after an accepted step: the machine's, and reached
  accepted-steps : (s : Stored) (v : Event) (e : Effect) (rest : List Message) → Reached n l s → Stepped s v e rest → machine_of (accepted_state s.tables (actor v) e.desk (rest ++ e.sent)) ≡ R.step (system_from n l) (machine_of s) (step_of v)
  unfolding accepted_state padded with_desk with_accepted
  accepted-steps s v e rest r h = let ms = rest ++ e.sent in rw (take-append_seam ms (replicate (message_limit - length ms) blank_message)) (stepped s v e rest r h)

  accepted-reached : (s : Stored) (v : Event) (e : Effect) (rest : List Message) → Reached n l s → Stepped s v e rest → effect_code s.tables.rig.accepted e rest ≡ 0
      → Reached n l (accepted_state s.tables (actor v) e.desk (rest ++ e.sent))
  unfolding accepted_state padded with_desk with_accepted
  accepted-reached s v e rest r h c =
      let ms = rest ++ e.sent in
      let free = room _ _ _ e.sent (length rest) c in
      let len : length ms ≤ message_limit = rw length-append free.0 in
      let seam = take-append_seam ms (replicate (message_limit - length ms) blank_message) in
      let z = sized-desk s.tables (actor v) e.desk r.sized h.sized h.low h.high in
      record {
        events = r.events ++ step_of v ∷ [];
        same =
            accepted-steps s v e rest r h
            ∙ ap (λ (x : R.Rig). R.step (system_from n l) x (step_of v)) r.same
            ∙ sym (run_more (system_from n l) r.events (step_of v) R.fresh);
        counted = rw (r.counted, tally-snoc-yes is_counted r.events (step_of v) (step-counted v)) (omega arith);
        size = r.size;
        sets = r.sets;
        sized = record { size = z.size; sets = z.sets; sites = z.sites; arbiters = z.arbiters; held = z.held; heir = z.heir; inquired = z.inquired; queued = z.queued };
        few = len;
        bounded = omega (arith, free.1);
        plain = rw seam (all_append Plain rest e.sent h.rests h.sends);
      }

  -- What an event answers: it is accepted, and its state is the machine's next one and reached, or refused, and nothing has changed.
  abbrev Answered : Stored → Event → Answer → Type 0
  Answered s v a = ((a.code ≡ 0) × (machine_of a.next ≡ R.step (system_from n l) (machine_of s) (step_of v)) × Reached n l a.next) ⊎ ((a.code ≢ 0) × (a.next ≡ s))

  judged-answered : (s : Stored) (v : Event) (d : Desk) (ms : List Message) (a : Attempt) → Reached n l s → Steps s v a → Answered s v (settled s (actor v) (judged s.tables.rig.accepted d ms a))
  unfolding judged settled
  judged-answered s v d ms (refused c) r h = inr (h.0, rw (ne_eqb c 0 h.0))
  judged-answered s v d ms (possible e rest) r h =
      let c = effect_code s.tables.rig.accepted e rest in
      by_bool (eqb c 0)
      (λ z. rw z (inl (refl, accepted-steps s v e rest r h, accepted-reached s v e rest r h (eqb-true _ 0 z))))
      (λ z. rw z (inr (eqb-false c 0 z, rw z)))

  pub event-answered : (s : Stored) (e : Event) → Reached n l s → Answered s e (event s e)
  unfolding event tested played event_at
  event-answered s e r =
      by_bool (eqb (length s.list) message_limit)
      (λ a. by_bool (well_shaped s)
      (λ b. rw (a, b) (judged-answered s e _ _ _ r (attempted-steps n l s r b e)))
      (λ b. rw (a, b) (inr ((λ x. omega (arith, x)), refl))))
      (λ a. rw a (inr ((λ x. omega (arith, x)), refl)))

  pub event-reached : (s : Stored) (e : Event) → Reached n l s → Reached n l (event s e).next
  event-reached s e r = ⊎_elim (λ h. h.2) (λ h. rw h.1 r) (event-answered s e r)

  pub run-reached : (es : List Event) (s : Stored) → Reached n l s → Reached n l (run s es)
  unfolding run
  run-reached [] s r = r
  run-reached (e ∷ es) s r = run-reached es (event s e).next (event-reached s e r)

  -- fails lose their numbers
  lost-reached : (s : Stored) (p : ℕ → Bool) → Reached n l s → Reached n l (with_lost p s)
  unfolding with_lost R.step
  lost-reached s p r = record {
    events = r.events ++ R.lose p ∷ [];
    same =
        rw (take-lost p s.count s.list, sent-lost p (under_way s))
        (ap (λ (x : R.Rig). R.step (system_from n l) x (R.lose p)) r.same ∙ sym (run_more (system_from n l) r.events (R.lose p) R.fresh));
    counted = r.counted ∙ sym (tally-snoc-no is_counted r.events (R.lose p) refl);
    size = r.size;
    sets = r.sets;
    sized = r.sized;
    few = r.few;
    bounded = r.bounded;
    plain = rw (take-lost p s.count s.list) (plain-lost p (under_way s) r.plain);
  }

  pub moves-reached : (moves : List L.Move) (s : Stored) → Reached n l s → Reached n l (run_with_losses s moves)
  unfolding run_with_losses L.moved
  moves-reached [] s r = r
  moves-reached (happens e ∷ moves) s r = moves-reached moves (event s e).next (event-reached s e r)
  moves-reached (loses p ∷ moves) s r = moves-reached moves (with_lost p s) (lost-reached s p r)

-- one list of events after another
pub run-append : (s : Stored) (xs ys : List Event) → run s (xs ++ ys) ≡ run (run s xs) ys
unfolding run
run-append s [] ys = refl
run-append s (x ∷ xs) ys = run-append (event s x).next xs ys

pub moves-append : (s : Stored) (xs ys : List L.Move) → run_with_losses s (xs ++ ys) ≡ run_with_losses (run_with_losses s xs) ys
unfolding run_with_losses
moves-append s [] ys = refl
moves-append s (x ∷ xs) ys = moves-append (L.moved s x) xs ys
