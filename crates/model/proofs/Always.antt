-- Every state of a run is well shaped, no event of it is refused with 10, or with 13 where its list began with 1,024 entries, its numbers
-- are small, and no reply, yield or plain release under way is stray.
use Prim.Native.Nat.{ℕ, suc, ◌+◌, ◌*◌, ◌≤◌, ◌<◌}
use mathlib.Core.Path.{◌≡◌, refl, sym, ◌∙◌, ap}
use mathlib.Core.Logic.{◌≢◌, ⊎_elim}
use mathlib.Core.Bool.{Bool, true, false, ◌||◌}
use mathlib.Core.List.{List, [], ◌∷◌, ◌++◌, map}
use native.Mathlib.Omega.{arith}
use native.Mathlib.Numerals.{add-one}
use lib.Dec.{eqb, leb, ltb}
use lib.ListN.{length}
use borrow.Author.Tests.{eqb-true, eqb-false, eq-eqb, ne_eqb, leb-true, leb-false, le-leb}
use Rattle.basics.specs.Helpers.{All}
use Rattle.basics.proofs.Basics.{by_bool, clash, and_split, all_of, or-second}
use Rattle.basics.proofs.Lists.{all_append}
use Rattle.rig.specs.declared.Desk.{Desk}
use Rattle.rig.specs.declared.Event.{Event}
use Rattle.rig.specs.declared.Message.{Message}
use Rattle.rig.specs.declared.Mode.{Mode}
use Rattle.rig.specs.declared.Mode.TheVariants.{Rest, Waiting, Inside}
use Rattle.rig.specs.Limits.{site_limit, message_limit, event_limit, number_limit}
use Rattle.protocol.specs.Message as M
use Rattle.protocol.specs.System.{System, Lawful, setting_of}
use Rattle.protocol.specs.Rig as R
use Rattle.protocol.proofs.Asks.{same_number}
use Rattle.protocol.proofs.Seen.{view_of}
use Rattle.protocol.proofs.Clauses.{Clauses, FitsTables}
use Rattle.protocol.proofs.RigInvariant.{RigInvariant, clauses-at, all-fit}
use Rattle.protocol.proofs.Invariant.{number_of}
use Rattle.protocol.proofs.Numbers.{RigBelow, SentBelow, step-bounded, run-numbers}
use Rattle.model.specs.Tables.{at, cell}
use Rattle.model.specs.Setup.{setup_code, kept_sets, resting_site, free_arbiter}
use Rattle.model.specs.State.{Tables, Stored, under_way, seq_in, size_of, sets_of, in_range, has_member, site_of, mode_of, arbiter_of, held_of, heir_of, inquired_of, queued_of, desk_of, with_desk}
use Rattle.model.specs.Shape.{is_number, is_given, set_shaped, mode_shaped, site_blank, site_shaped, holder_shaped, arbiter_shaped, place_shaped, rig_shaped, entry_shaped, own_shaped, heir_shaped, queued_shaped, everywhere, number_shaped, plain_shaped, release_shaped, about_shaped, message_shaped, messages_shaped, tables_shaped, well_shaped}
use Rattle.model.specs.Desk.{Effect}
use Rattle.model.specs.Event.{actor, Attempt, refused, possible, numbers_up_to, numbers_fit, limit_code, effect_code, judged, event_at, settled, played, tested, event}
use Rattle.model.specs.Arbiter.{from_holder, is_early}
use Rattle.model.specs.Site.{takes}
use Rattle.model.specs.Run.{fresh, run, Always}
use Rattle.model.specs.Losses.{ShapedWithLosses}
use Rattle.model.specs.Always.{NineByCount, NumbersWithin, NumbersSmall, AlwaysShaped, AlwaysLong, fits_rule, all_fit, NeverStray}
use Rattle.model.proofs.Setup.{Accepted, accepts}
use Rattle.model.proofs.Shaped.{in-range}
use Rattle.model.proofs.Machine.{mode_number, sent_of, rig_of, rests-same, waits-same}
use Rattle.model.proofs.Lawful.{system_from, lawful, kept-past, kept-code}
use Rattle.model.proofs.Plain.{wire_of, Plain, AllPlain}
use Rattle.model.proofs.Tables.{at-put-same}
use Rattle.model.proofs.Reached.{step_of, Reached, Stepped, Steps, attempted-steps, stepped}
use Rattle.model.proofs.Codes.{never-ten, never-thirteen, run_long}
use Rattle.model.proofs.Theorem.{invariant, run_of, moves_of}

-- the number of a message is the machine's
number-of : (b j : ℕ) (m : M.Message) → number_of m ≤ b → (wire_of j m).number ≤ b
number-of b j (M.request k n) h = h
number-of b j (M.reply f k n) h = h
number-of b j (M.release k n) h = h
number-of b j (M.hand_over k x n) h = h
number-of b j (M.inquire k n) h = h
number-of b j (M.fail k n) h = omega arith
number-of b j (M.yield k n) h = h
number-of b j (M.transfer k x n) h = h

numbers_of : (b : ℕ) (ms : List Message) → AllPlain ms → All (SentBelow b) (map sent_of ms) → numbers_up_to b ms ≡ true
unfolding All numbers_up_to
numbers_of b [] p h = refl
numbers_of b (m ∷ ms) p h =
    let w = number-of b (sent_of m).arbiter (sent_of m).message h.0 in
    rw (le-leb m.number b (rw p.0 at w), numbers_of b ms p.1 h.1)

is-number : (n : ℕ) → n ≤ number_limit → is_number n ≡ true
unfolding is_number
is-number n h = le-leb n number_limit h

is-given : (n : ℕ) → 1 ≤ n → n ≤ number_limit → is_given n ≡ true
unfolding is_given
is-given n a b = rw (le-leb 1 n a, is-number n b)

-- an entry that is 0 unless the site is tied to the arbiter
entry-shaped : (tie : Bool) (n : ℕ) → n ≤ number_limit → (n ≢ 0 → tie ≡ true) → entry_shaped tie n ≡ true
unfolding entry_shaped
entry-shaped true n a b = is-number n a
entry-shaped false n a b = by_bool (eqb n 0) (λ e. e) (λ e. clash false (b (eqb-false n 0 e)) refl)

everywhere-of : (p : ℕ → ℕ → ℕ → Bool) (table : List (List ℕ)) → ((i j : ℕ) → p i j (cell table i j) ≡ true) → everywhere p table ≡ true
unfolding everywhere
everywhere-of p table h = all_of _ site_limit (λ i a b. all_of _ site_limit (λ j c d. h i j))

-- the last messages of a list
last-numbers : (b : ℕ) (xs ys : List Message) → b ≤ number_limit → numbers_up_to b (xs ++ ys) ≡ true → numbers_up_to number_limit ys ≡ true
unfolding numbers_up_to
last-numbers b [] [] l h = refl
last-numbers b [] (m ∷ ms) l h =
    let w = and_split (leb m.number b) _ h in
    rw (le-leb m.number number_limit (omega (arith, leb-true _ b w.0)), last-numbers b [] ms l w.1)
last-numbers b (x ∷ xs) ys l h = last-numbers b xs ys l (and_split (leb x.number b) _ h).1

module _ (n : ℕ) (l : List ℕ) (passed : setup_code n l ≡ 0) (past : (k : ℕ) → n < k → at 0 l k ≡ 0) (s : Stored) (r : Reached n l s) where
  a : Accepted n l
  a = accepts n l passed

  abbrev y : System
  y = system_from n l

  abbrev t : Tables
  t = s.tables

  abbrev state : R.Rig
  state = rig_of t (under_way s)

  abbrev bound : ℕ
  bound = 2 * t.rig.accepted

  bound-fits : bound ≤ number_limit
  bound-fits = omega (arith, r.bounded)

  below : RigBelow bound state
  below = rw (r.same, r.counted) (run-numbers y r.events)

  pub numbers-within : NumbersWithin bound s
  numbers-within = record {
    clock = below.clock;
    seq = below.ask;
    grant = λ j. (below.rows j).grant;
    holder_seq = λ j. (below.rows j).holder_ask;
    held = λ k j. (below.rows j).held k;
    inquired = λ k j. (below.rows j).inquired k;
    queued = λ j k. (below.rows j).queued k;
    messages = numbers_of bound (under_way s) r.plain below.under_way;
  }

  inv : RigInvariant y state
  inv = invariant n l a past s r

  -- the clauses of arbiter j
  clauses : (j : ℕ) → Clauses (setting_of y j) (view_of state j)
  clauses j = clauses-at y (lawful n l a past) state inv j

  -- sets and members as the machine has them
  member-same : (k j : ℕ) → has_member (sets_of t) k j ≡ y.sets k j
  member-same k j = rw r.sets

  set-shaped : (k : ℕ) → set_shaped (size_of t) k (at 0 (sets_of t) k) ≡ true
  unfolding set_shaped
  set-shaped k = rw (r.size, r.sets) (by_bool (leb k n) (λ e. rw e) (λ e. rw (e, past k (leb-false k n e))))

  mode-shaped : (m : Mode) (k : ℕ) → mode_of t k ≡ m → mode_shaped m ≡ true
  unfolding mode_shaped
  mode-shaped Rest k e = refl
  mode-shaped (Waiting q f) k e =
      let w = (clauses 1).waiting_numbered k (ap mode_number e) in
      let b = below.ask k in
      let q1 : seq_in (mode_of t k) ≡ q = ap seq_in e in
      is-given q (omega arith) (omega (arith, bound-fits))
  mode-shaped Inside k e = refl

  -- all past N is 0
  zero-past : (k x : ℕ) → (x ≢ 0 → (1 ≤ k) × (k ≤ n)) → in_range (size_of t) k ≡ false → eqb x 0 ≡ true
  zero-past k x h e = by_bool (eqb x 0) (λ z. z)
      (λ z. let w = h (eqb-false x 0 z) in clash (in_range (size_of t) k) (in-range (size_of t) k w.0 (rw r.size w.1)) e)

  site-shaped : (k : ℕ) → site_shaped (size_of t) k (site_of t k) ≡ true
  unfolding site_shaped site_blank
  site-shaped k = by_bool (in_range (size_of t) k)
      (λ e. rw (e, is-number (site_of t k).clock (omega (arith, below.clock k, bound-fits)), mode-shaped (mode_of t k) k refl))
      (λ e. rw (e, zero-past k (site_of t k).clock (inv.clock_in_range k) e, ← rests-same (mode_of t k), zero-past k (mode_number (mode_of t k)) (inv.in_range k) e))

  arbiter-shaped : (j : ℕ) → arbiter_shaped (size_of t) (sets_of t) j (arbiter_of t j) ≡ true
  unfolding arbiter_shaped holder_shaped
  arbiter-shaped j =
      let c = (clauses j).holder_range in
      let q = (below.rows j).holder_ask in
      let fits : in_range (size_of t) j || eqb (arbiter_of t j).grant 0 ≡ true = by_bool (in_range (size_of t) j) (λ e. rw e) (λ e. rw (e, zero-past j (arbiter_of t j).grant (inv.grant_in_range j) e)) in
      rw (is-number (arbiter_of t j).grant (omega (arith, (below.rows j).grant, bound-fits)), fits)
      (by_bool (eqb (arbiter_of t j).holder 0)
      (λ e. rw (e, eq-eqb (arbiter_of t j).seq 0 (same_number (c.1 (eqb-true _ 0 e)))))
      (λ e. let h = c.0 (eqb-false _ 0 e) in rw (e, member-same (arbiter_of t j).holder j, h.2, is-given (arbiter_of t j).seq h.0 (omega (arith, q, bound-fits)))))

  place-shaped : (k : ℕ) → place_shaped t.rig k ≡ true
  unfolding place_shaped
  place-shaped k = rw (set-shaped k, site-shaped k, arbiter-shaped k)

  rig-shaped : rig_shaped t.rig ≡ true
  unfolding rig_shaped
  rig-shaped =
      let code : setup_code (size_of t) (sets_of t) ≡ 0 = rw (r.size, r.sets) passed in
      rw (eq-eqb _ 0 code, le-leb t.rig.accepted event_limit r.bounded, all_of (place_shaped t.rig) site_limit (λ k b c. place-shaped k))

  held-shaped : (k j : ℕ) → own_shaped (sets_of t) k j (held_of t k j) ≡ true
  unfolding own_shaped
  held-shaped k j = entry-shaped _ _ (omega (arith, (below.rows j).held k, bound-fits)) (λ h. member-same k j ∙ ((clauses j).T2 k h).1)

  inquired-shaped : (k j : ℕ) → own_shaped (sets_of t) k j (inquired_of t k j) ≡ true
  unfolding own_shaped
  inquired-shaped k j = entry-shaped _ _ (omega (arith, (below.rows j).inquired k, bound-fits)) (λ h. member-same k j ∙ ((clauses j).T8 k h).1)

  queued-shaped : (j k : ℕ) → queued_shaped (sets_of t) j k (queued_of t j k) ≡ true
  unfolding queued_shaped
  queued-shaped j k = entry-shaped _ _ (omega (arith, (below.rows j).queued k, bound-fits)) (λ h. member-same k j ∙ (clauses j).queued_member k h)

  heir-shaped : (k j : ℕ) → heir_shaped (sets_of t) k j (heir_of t k j) ≡ true
  unfolding heir_shaped
  heir-shaped k j = by_bool (eqb (heir_of t k j) 0) (λ e. rw e)
      (λ e. let h = (clauses j).T7 k (eqb-false _ 0 e) in rw (e, member-same k j, h.3, member-same (heir_of t k j) j, h.4))

  tables-shaped : tables_shaped t ≡ true
  unfolding tables_shaped
  tables-shaped =
      rw (
        rig-shaped,
        everywhere-of (own_shaped (sets_of t)) t.held held-shaped,
        everywhere-of (heir_shaped (sets_of t)) t.heir heir-shaped,
        everywhere-of (own_shaped (sets_of t)) t.inquired inquired-shaped,
        everywhere-of (queued_shaped (sets_of t)) t.queued queued-shaped,
      )

  -- Messages

  law : Lawful y
  law = lawful n l a past

  -- the two ends of a tie are sites 1 to N
  site-in : (k j : ℕ) → y.sets k j ≡ true → in_range (size_of t) k ≡ true
  site-in k j e = let w = law.site_in_range k j e in in-range (size_of t) k w.0 (rw r.size w.1)

  arbiter-in : (k j : ℕ) → y.sets k j ≡ true → in_range (size_of t) j ≡ true
  arbiter-in k j e = let w = law.member_in_range k j e in in-range (size_of t) j w.0 (rw r.size w.1)

  tie : (k j : ℕ) → y.sets k j ≡ true → has_member (sets_of t) k j ≡ true
  tie k j e = member-same k j ∙ e

  given : (x : ℕ) → 1 ≤ x → x ≤ bound → is_given x ≡ true
  given x b c = is-given x b (omega (arith, bound-fits))

  wire-shaped : (j : ℕ) (m : M.Message) → FitsTables (setting_of y j) (view_of state j) m → number_of m ≤ bound → message_shaped (size_of t) (sets_of t) (wire_of j m) ≡ true
  unfolding FitsTables message_shaped number_shaped is_number about_shaped plain_shaped release_shaped
  wire-shaped j (M.request k x) f b = rw (site-in k j f.3, arbiter-in k j f.3, given x.number f.2 b, tie k j f.3)
  wire-shaped j (M.reply u k x) f b = rw (in-range (size_of t) u f.4 (rw r.size f.5), site-in k j f.3, given x f.2 b, tie k j f.3)
  wire-shaped j (M.release k x) f b = rw (site-in k j f.2, arbiter-in k j f.2, given x f.1 b, tie k j f.2)
  wire-shaped j (M.hand_over k h x) f b =
      rw (site-in k j f.2, arbiter-in k j f.2, given x f.4 b, tie k j f.2, tie h j f.3) (or-second (eqb h 0) true refl)
  wire-shaped j (M.inquire k x) f b = rw (site-in k j f.2, arbiter-in k j f.2, given x f.0 b, tie k j f.2)
  wire-shaped j (M.fail k x) f b = rw (site-in k j f, arbiter-in k j f, le-leb x number_limit (omega (arith, bound-fits)), tie k j f)
  wire-shaped j (M.yield k x) f b = rw (site-in k j f.6, arbiter-in k j f.6, given x f.5 b, tie k j f.6)
  wire-shaped j (M.transfer k h x) f b = rw (site-in k j f.3, arbiter-in k j f.3, given x f.0 b, tie k j f.3, tie h j f.4)

  abbrev Fits : R.Sent → Type 0
  Fits x = FitsTables (setting_of y x.arbiter) (view_of state x.arbiter) x.message

  messages-shaped : (ms : List Message) → AllPlain ms → All Fits (map sent_of ms) → All (SentBelow bound) (map sent_of ms) → messages_shaped (size_of t) (sets_of t) ms ≡ true
  unfolding All messages_shaped
  messages-shaped [] p f b = refl
  messages-shaped (m ∷ ms) p f b =
      let w = wire-shaped (sent_of m).arbiter (sent_of m).message f.0 b.0 in
      rw (rw p.0 at w, messages-shaped ms p.1 f.1 b.1)

  every-fits : All Fits (map sent_of (under_way s))
  every-fits = all-fit y law state inv

  pub well-shaped : well_shaped s ≡ true
  unfolding well_shaped
  well-shaped = rw (le-leb s.count message_limit r.few, tables-shaped, messages-shaped (under_way s) r.plain every-fits below.under_way)

  shaped-and-played : (well_shaped s ≡ true) × ((e : Event) → (event s e).code ≢ 10)
  shaped-and-played = (well-shaped, never-ten s well-shaped)

  -- No reply, yield or plain release is stray

  wire-fits : (j : ℕ) (m : M.Message) → FitsTables (setting_of y j) (view_of state j) m → fits_rule t (wire_of j m) ≡ true
  unfolding FitsTables fits_rule takes from_holder is_early desk_of cell
  wire-fits j (M.request k x) f = refl
  wire-fits j (M.reply u k x) f = rw (← waits-same (mode_of t k), f.1, tie k j f.3) (eq-eqb (held_of t k j) 0 f.6)
  wire-fits j (M.release k x) f = ⊎_elim
      (λ h. rw (eq-eqb x (arbiter_of t j).grant h.1, eq-eqb k (arbiter_of t j).holder h.0))
      (λ h. or-second (from_holder (desk_of t j) k x) (is_early (desk_of t j) k 0 x) (rw (eq-eqb x ((arbiter_of t j).grant + 1) (h.0 ∙ sym (add-one _)), ne_eqb (queued_of t j k) 0 h.1)))
      f.0
  wire-fits j (M.hand_over k h x) f = let w = (law.site_in_range h j f.3).0 in rw (ne_eqb h 0 (omega arith))
  wire-fits j (M.inquire k x) f = refl
  wire-fits j (M.fail k x) f = refl
  wire-fits j (M.yield k x) f = rw (eq-eqb x (arbiter_of t j).grant f.1, eq-eqb k (arbiter_of t j).holder f.0)
  wire-fits j (M.transfer k h x) f = refl

  all-fitting : (ms : List Message) → AllPlain ms → All Fits (map sent_of ms) → all_fit t ms ≡ true
  unfolding All all_fit
  all-fitting [] p f = refl
  all-fitting (m ∷ ms) p f =
      let w = wire-fits (sent_of m).arbiter (sent_of m).message f.0 in
      rw (rw p.0 at w, all-fitting ms p.1 f.1)

  pub never-stray : all_fit t (under_way s) ≡ true
  never-stray = all-fitting (under_way s) r.plain every-fits

  -- 9 comes from the count of events alone

  numbers_fit_lem : (ev : Event) (e : Effect) (rest : List Message) → Stepped s ev e rest → t.rig.accepted < event_limit → numbers_fit e.desk.site.clock e.desk.arbiter.grant e.sent ≡ true
  unfolding numbers_fit with_desk
  numbers_fit_lem ev e rest v c =
      let k = actor ev in
      let b = suc (suc bound) in
      let fits : b ≤ number_limit = omega arith in
      let next : RigBelow b (rig_of (with_desk t k e.desk) (rest ++ e.sent)) = rw (stepped n l s ev e rest r v) (step-bounded y bound state (step_of ev) below) in
      let clock : e.desk.site.clock ≤ b = rw (at-put-same resting_site t.rig.sites k e.desk.site v.low (rw r.sized.sites v.high)) at (next.clock k) in
      let grant : e.desk.arbiter.grant ≤ b = rw (at-put-same free_arbiter t.rig.arbiters k e.desk.arbiter v.low (rw r.sized.arbiters v.high)) at (next.rows k).grant in
      rw (
        is-number e.desk.site.clock (omega arith),
        is-number e.desk.arbiter.grant (omega arith),
        last-numbers b rest e.sent fits (numbers_of b (rest ++ e.sent) (all_append Plain rest e.sent v.rests v.sends) next.under_way),
      )

  limit-nine : (ev : Event) (e : Effect) (rest : List Message) → Stepped s ev e rest → effect_code t.rig.accepted e rest ≡ 9 → t.rig.accepted ≡ event_limit
  unfolding limit_code
  limit-nine ev e rest v h = by_bool (leb event_limit t.rig.accepted)
      (λ c. omega (arith, leb-true event_limit t.rig.accepted c, r.bounded))
      (λ c. let f = numbers_fit_lem ev e rest v (leb-false event_limit t.rig.accepted c) in
      by_bool (ltb message_limit (length rest + length e.sent))
      (λ d. let x : ◌≡◌ {A = ℕ} 8 9 = rw (c, f, d) at h in absurd (omega arith))
      (λ d. let x : ◌≡◌ {A = ℕ} 0 9 = rw (c, f, d) at h in absurd (omega arith)))

  judged-nine : (ev : Event) (d : Desk) (ms : List Message) (q : Attempt) → Steps s ev q → (judged t.rig.accepted d ms q).code ≡ 9 → t.rig.accepted ≡ event_limit
  unfolding judged
  judged-nine ev d ms (refused c) v h = absurd (v.1 h)
  judged-nine ev d ms (possible e rest) v h =
      by_bool (eqb (effect_code t.rig.accepted e rest) 0)
      (λ z. let x : ◌≡◌ {A = ℕ} 0 9 = rw z at h in absurd (omega arith))
      (λ z. limit-nine ev e rest v (rw z at h))

  pub nine-by-count : (e : Event) → (event s e).code ≡ 9 → t.rig.accepted ≡ event_limit
  unfolding event tested played event_at settled
  nine-by-count e h =
      by_bool (eqb (length s.list) message_limit)
      (λ b. judged-nine e _ _ _ (attempted-steps n l s r well-shaped e) (rw (b, well-shaped) at h))
      (λ b. let x : ◌≡◌ {A = ℕ} 13 9 = rw b at h in absurd (omega arith))

-- Said of every run

always : (P : Stored → Type 0) → ((n : ℕ) (l : List ℕ) → setup_code n l ≡ 0 → ((k : ℕ) → n < k → at 0 l k ≡ 0) → (s : Stored) → Reached n l s → P s) → Always P
always P h n sets list es e =
    let a = accepts n sets e in
    h n (kept_sets n sets) (kept-code n sets a ∙ e) (kept-past n sets a) _ (run_of n sets list es e)

pub always-shaped : AlwaysShaped
unfolding AlwaysShaped
always-shaped = always _ shaped-and-played

pub shaped-with-losses : ShapedWithLosses
unfolding ShapedWithLosses
shaped-with-losses n sets list moves e =
    let a = accepts n sets e in
    well-shaped n (kept_sets n sets) (kept-code n sets a ∙ e) (kept-past n sets a) _ (moves_of n sets list moves e)

pub always-long : AlwaysLong
unfolding AlwaysLong fresh
always-long n sets list es long e = never-thirteen (run (fresh n sets list) es) (run_long es (fresh n sets list) long) e

pub numbers-small : NumbersSmall
unfolding NumbersSmall
numbers-small = always _ numbers-within

pub nine-by-events : NineByCount
unfolding NineByCount
nine-by-events = always _ nine-by-count

pub no_stray : NeverStray
unfolding NeverStray
no_stray = always _ never-stray
