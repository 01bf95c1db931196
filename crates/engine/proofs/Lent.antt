-- An event on the rows that were read from a lent list, and the list rewritten from them, is the event on the list.
use Prim.Native.Nat.{ℕ, zero, suc, ◌+◌, ◌-◌, ◌≤◌, ◌<◌}
use mathlib.Core.Path.{◌≡◌, refl, sym, ap, ◌∙◌}
use mathlib.Core.Bool.{Bool, true, false, not, cond}
use mathlib.Core.List.{List, [], ◌∷◌, ◌++◌, map, append-nil}
use mathlib.Core.Option.{Option, none, some}
use native.Mathlib.Omega.{arith}
use lib.Dec.{eqb, leb, ltb}
use lib.ListN.{length, take, drop, length-append, length-take, length-drop, take-append-drop}
use lib.Seq.{paste, paste-zero, length-take-le, take_all, take-append-le, take-take, drop-length}
use borrow.Author.Tests.{eqb-true, leb-true, ltb-true, eq-eqb, lt-leb, le-ltb}
use Rattle.basics.specs.Helpers.{first, without_first}
use Rattle.basics.proofs.Basics.{by_bool, clash}
use Rattle.rig.specs.declared.Desk.{Desk}
use Rattle.rig.specs.declared.Message.{Message}
use Rattle.rig.specs.declared.Event.{Event}
use Rattle.rig.specs.declared.Event.TheVariants.{Ask, Leave, Deliver}
use Rattle.rig.specs.Limits.{message_limit}
use Rattle.model.specs.State.{Tables, is_resting, is_inside, desk_of, Stored}
use Rattle.model.specs.Shape.{well_shaped}
use Rattle.model.specs.Deliver.{between}
use Rattle.model.specs.Event as M
use Rattle.model.proofs.Reached.{room}
use Rattle.model.proofs.Codes.{padded-long}
use Rattle.list_search.specs.declared.Found.{Found}
use Rattle.list_search.specs.declared.Found.TheVariants.{At, Nowhere}
use Rattle.list_search.specs.Places.{place_from}
use Rattle.list_rows.specs.Rows.{row_of, message_of, zero_rows}
use Rattle.list_lent.specs.First.{first_in}
use Rattle.event_sites.specs.Places.{sender_of, receiver_of}
use Rattle.event_rows.specs.Tested.{tested_with}
use Rattle.engine_parts.specs.Parts.{list_code, read_of, place_found, changed_from}

-- an answer, with another list in the state that it leaves
abbrev pub relisted : List Message → M.Answer → M.Answer
relisted l a = record { code = a.code; next = record { tables = a.next.tables; list = l; count = a.next.count } }

-- rows made of the first n messages, with others behind them
rows-read : (n : ℕ) (L : List Message) (rest : List (List ℕ)) → n ≤ length L → take n (map message_of (take n (map row_of L) ++ rest)) ≡ take n L
rows-read zero L rest h = refl
rows-read (suc n) [] rest h = absurd (omega arith)
rows-read (suc n) (m ∷ ms) rest h = ap (λ (r : List Message). m ∷ r) (rows-read n ms rest (omega arith))

-- the rows read from the list say what its first n messages are
pub read-rows : (L : List Message) (n : ℕ) → n ≤ length L → n ≤ message_limit → take n (map message_of (paste zero_rows 0 (map row_of L) n)) ≡ take n L
read-rows L n h k = rows-read n L (drop (0 + n) zero_rows) h

module _ {A : Type 0} (test : A → Bool) where
  none_found : (k : ℕ) (xs : List A) → place_from k test xs ≡ Nowhere → first test xs ≡ none
  unfolding first
  none_found k [] h = refl
  none_found k (x ∷ xs) h =
      by_bool (test x)
      (λ e. let g : At k ≡ Nowhere = rw e at h in let z : ◌≡◌ {A = ℕ} 0 1 = cc in absurd (omega arith))
      (λ e. rw e (none_found (suc k) xs (rw e at h)))

  -- up to the place of the first entry that passes, the list without that entry is the list
  abbrev Agrees : List A → ℕ → Type 0
  Agrees xs j = (j < length xs) × (j ≤ length (without_first test xs)) × (take j (without_first test xs) ≡ take j xs)

  agrees : (k : ℕ) (xs : List A) (i : ℕ) → place_from k test xs ≡ At i → (j : ℕ) × (i ≡ k + j) × Agrees xs j
  unfolding without_first
  agrees k [] i h = let z : ◌≡◌ {A = ℕ} 0 1 = cc in absurd (omega arith)
  agrees k (x ∷ xs) i h =
      by_bool (test x)
      (λ e. let g : At k ≡ At i = rw e at h in let z : k ≡ i = cc in (0, omega arith, (omega arith, omega arith, refl)))
      (λ e. let s = agrees (suc k) xs i (rw e at h) in
      (suc s.0, omega arith, (omega arith, rw e (omega (arith, s.2.1)), rw e (ap (λ (ys : List A). x ∷ ys) s.2.2))))

  found-agrees : (xs : List A) (i : ℕ) → place_from 0 test xs ≡ At i → Agrees xs i
  found-agrees xs i h =
      let s = agrees 0 xs i h in
      let e : i ≡ s.0 = omega arith in
      rw e s.2

-- no message is rewritten
pub kept : (L s : List Message) → paste L (length L) s (length L - length L) ≡ L
kept L s = let z : length L - length L ≡ 0 = omega arith in rw z (sym (paste-zero L (length L) s))

-- all messages from a place on are rewritten
pub rejoined : (L next : List Message) (place : ℕ) → place ≤ length L → length next ≡ length L → take place next ≡ take place L
    → paste L place (drop place next) (length L - place) ≡ next
rejoined L next place fits long e =
    let a : place + (length L - place) ≡ length L = omega arith in
    let b : length (drop place next) ≤ length L - place = rw length-drop (omega arith) in
    rw (a, drop-length, append-nil, take_all (length L - place) (drop place next) b, ← e, take-append-drop)

padded-take : (place : ℕ) (ms : List Message) → place ≤ length ms → take place (M.padded ms) ≡ take place ms
unfolding M.padded
padded-take place ms h = take-append-le place ms _ h

module _ (L : List Message) (place : ℕ) where
  -- a list that begins as L does, up to the place
  abbrev Begins : List Message → Type 0
  Begins ms = (place ≤ length ms) × (take place ms ≡ take place L)

  begins-on : (rest sent : List Message) → Begins rest → Begins (rest ++ sent)
  begins-on rest sent b = (rw length-append (omega (arith, b.0)), take-append-le place rest sent b.0 ∙ b.1)

  -- an attempt is refused with a code that is not 0, or leaves the list as it is up to the place
  abbrev Leaves : M.Attempt → Type 0
  Leaves (M.refused c) = eqb c 0 ≡ false
  Leaves (M.possible e rest) = Begins rest

  one-leaves : (b : Bool) (x y : M.Attempt) → Leaves x → Leaves y → Leaves (cond b x y)
  one-leaves true x y f g = f
  one-leaves false x y f g = g

  -- so does an outcome with code 0, and its messages are not too many
  abbrev Fits : M.Outcome → Type 0
  Fits o = eqb o.code 0 ≡ true → (length o.messages ≤ message_limit) × Begins o.messages

  judged-fits : (n : ℕ) (d : Desk) (ms : List Message) (a : M.Attempt) → Leaves a → Fits (M.judged n d ms a)
  unfolding M.judged
  judged-fits n d ms (M.refused c) s = λ z. clash (eqb c 0) z s
  judged-fits n d ms (M.possible e rest) s =
      by_bool (eqb (M.effect_code n e rest) 0)
      (λ h. rw h (λ z. (rw length-append (room _ _ _ e.sent (length rest) (eqb-true _ 0 h)).0, begins-on rest e.sent s)))
      (λ h. rw h (λ z. clash (eqb (M.effect_code n e rest) 0) z h))

  event-fits : (n : ℕ) (d : Desk) (ms : List Message) (e : Event) → Leaves (M.attempt d ms e) → Fits (M.event_at n d ms e)
  unfolding M.event_at M.attempted
  event-fits n d ms e s = judged-fits n d ms _ (one-leaves (not (M.sites_named d.size e)) _ _ refl s)

  module _ (t : Tables) (l : List Message) (n : ℕ) where
    -- the answer on another list, with L rewritten from the list that it leaves
    abbrev rewritten : M.Answer → M.Answer
    rewritten a =
        let from = cond (not (eqb a.code 0)) (length L) place in
        relisted (paste L from (drop from a.next.list) (length L - from)) a

    abbrev stored : List Message → Stored
    stored ms = record { tables = t; list = ms; count = n }

    turned_down : (c : ℕ) → eqb c 0 ≡ false → rewritten (M.answer c (stored l)) ≡ M.answer c (stored L)
    turned_down c h = rw h (ap (λ (ms : List Message). M.answer c (stored ms)) (kept L (drop (length L) l)))

    -- an outcome is settled alike, and the list that it leaves is L rewritten
    settled_same : length L ≡ message_limit → place ≤ length L → (k : ℕ) (o : M.Outcome) → Fits o → rewritten (M.settled (stored l) k o) ≡ M.settled (stored L) k o
    unfolding M.settled M.accepted_state
    settled_same full low k o s =
        by_bool (eqb o.code 0)
        (λ h. let b = s h in
        let long : length (M.padded o.messages) ≡ length L = padded-long o.messages b.0 ∙ sym full in
        let next = M.answer o.code (M.accepted_state t k o.desk o.messages) in
        rw h
        (ap (λ (ms : List Message). relisted ms next) (rejoined L (M.padded o.messages) place low long (padded-take place o.messages b.1.0 ∙ b.1.1))))
        (λ h. rw h (ap (λ (ms : List Message). M.answer o.code (stored ms)) (kept L (drop (length L) l))))

-- the place from which an event changes the list is one of the first n, or n
place-within : (test : Message → Bool) (xs : List Message) (n m : ℕ) → m ≤ n → (f : Found) → place_from 0 test (take m xs) ≡ f → place_found n f ≤ n
place-within test xs n m h (At i) e = let a = (found-agrees test (take m xs) i e).0 in let b = length-take m xs in omega arith
place-within test xs n m h Nowhere e = omega arith

module _ (d : Desk) (L : List Message) (n : ℕ) (fits : n ≤ length L) where
  -- an ask or a leave: all messages stay
  all_stay : (place : ℕ) → place ≤ n → Begins L place (take n L)
  all_stay place h = (rw (length-take-le n L fits) h, take-take place n L h)

  -- a delivery: its message stands at the place, and the messages before it stay
  taken-leaves : (test : Message → Bool) (f : Found) → place_from 0 test (take n L) ≡ f → (o : Option Message) → first test (take n L) ≡ o
      → Leaves L (place_found n f) (M.taken_off d o (without_first test (take n L)))
  unfolding M.taken_off
  taken-leaves test f p none q = refl
  taken-leaves test (At i) p (some m) q =
      let g = found-agrees test (take n L) i p in
      let w = length-take-le n L fits in
      (g.1, g.2 ∙ take-take i n L (omega arith))
  taken-leaves test Nowhere p (some m) q = let w = none_found test 0 (take n L) p in let z : ◌≡◌ {A = ℕ} 0 1 = cc in absurd (omega arith)

  attempt-leaves : (e : Event) → Leaves L (place_found n (first_in (sender_of e) (receiver_of e) (take n L))) (M.attempt d (take n L) e)
  unfolding M.attempt
  attempt-leaves (Ask s) = one-leaves L _ (is_resting d.site.mode) _ _ (all_stay _ (place-within (between 0 0) L n n (omega arith) _ refl)) refl
  attempt-leaves (Leave s) = one-leaves L _ (is_inside d.site.mode) _ _ (all_stay _ (place-within (between 0 0) L n n (omega arith) _ refl)) refl
  attempt-leaves (Deliver a b) = taken-leaves (between a b) (first_in a b (take n L)) refl (first (between a b) (take n L)) refl

-- no state has too many messages under way
pub too-many-shaped : (s : Stored) → leb s.count message_limit ≡ false → well_shaped s ≡ false
unfolding well_shaped
too-many-shaped s a = rw a

-- the shape of a state depends on those messages of its list that are under way
pub shaped-same : (t : Tables) (L l : List Message) (n : ℕ) → take n l ≡ take n L → well_shaped (record { tables = t; list = l; count = n }) ≡ well_shaped (record { tables = t; list = L; count = n })
unfolding well_shaped
shaped-same t L l n u = rw u

module _ (t : Tables) (L l : List Message) (n : ℕ) (e : Event) where
  abbrev whole : Stored
  whole = record { tables = t; list = L; count = n }

  abbrev copy : Stored
  copy = record { tables = t; list = l; count = n }

  abbrev code : ℕ
  code = list_code n (length L)

  abbrev read : ℕ
  read = read_of code n

  abbrev told : M.Answer
  told = tested_with code copy e

  abbrev from : ℕ
  from = changed_from told.code (first_in (sender_of e) (receiver_of e) (take read L)) n (length L)

  abbrev place : ℕ
  place = place_found n (first_in (sender_of e) (receiver_of e) (take read L))

  few-read : read ≤ n
  few-read = by_bool (eqb code 0) (λ a. rw a (omega arith)) (λ a. rw a (omega arith))

  all_read : length L ≡ message_limit → n ≤ message_limit → read ≡ n
  all_read f k = rw (eq-eqb (length L) message_limit f, le-ltb message_limit n k)

  place-low : place ≤ n
  place-low = place-within (between (sender_of e) (receiver_of e)) L n read few-read _ refl

  place-leaves : (d : Desk) → length L ≡ message_limit → n ≤ message_limit → Leaves L place (M.attempt d (take n L) e)
  place-leaves d f k = rw (all_read f k) (attempt-leaves d L n (omega arith) e)

  -- 10, where the count is too large
  too_many : (s : Stored) → leb s.count message_limit ≡ false → M.tested s e ≡ M.answer 10 s
  unfolding M.tested
  too_many s a = rw (too-many-shaped s a)

  -- 13 for both lists, and else what the tests say
  wrong-length : eqb (length L) message_limit ≡ false → (told ≡ M.answer 13 copy) × (M.event whole e ≡ M.answer 13 whole)
  unfolding tested_with M.event
  wrong-length a = (rw a, rw a)

  right-length : eqb (length L) message_limit ≡ true → (told ≡ M.tested copy e) × (M.event whole e ≡ M.tested whole e)
  unfolding tested_with M.event
  right-length a = (
    by_bool (ltb message_limit n)
        (λ b. rw (a, b) (sym (too_many copy (lt-leb n message_limit (ltb-true message_limit n b)))))
        (λ b. rw (a, b)),
    rw a,
  )

  module _ (same : length L ≡ message_limit → n ≤ message_limit → take n l ≡ take n L) where
    tested-same : length L ≡ message_limit → rewritten L place t l n (M.tested copy e) ≡ M.tested whole e
    unfolding M.tested M.played
    tested-same full =
        by_bool (leb n message_limit)
        (λ a. let k = leb-true n message_limit a in
        let low = place-low in
        let u = same full k in
        by_bool (well_shaped whole)
        (λ b. rw (shaped-same t L l n u, b, u)
        (settled_same L place t l n full (omega arith) (M.actor e) _ (event-fits L place t.rig.accepted (desk_of t (M.actor e)) (take n L) e (place-leaves _ full k))))
        (λ b. rw (shaped-same t L l n u, b) (turned_down L place t l n 10 refl)))
        (λ a. rw (too_many copy a, too_many whole a) (turned_down L place t l n 10 refl))

    -- an event is accepted only where the count is at most 1,024
    accepted-few : eqb (length L) message_limit ≡ true → eqb told.code 0 ≡ true → n ≤ message_limit
    accepted-few f h =
        by_bool (leb n message_limit)
        (λ a. leb-true n message_limit a)
        (λ a. let z : eqb 10 0 ≡ true = rw ((right-length f).0, too_many copy a) at h in clash false z refl)

    pub from-fits : from ≤ length L
    from-fits =
        by_bool (eqb (length L) message_limit)
        (λ f. by_bool (eqb told.code 0)
        (λ h. let k = accepted-few f h in
        let full = eqb-true (length L) message_limit f in
        let low = place-low in
        rw h (omega arith))
        (λ h. rw h (omega arith)))
        (λ f. rw (wrong-length f).0 (omega arith))

    -- only a list of full length is written to
    pub from-long : from < length L → length L ≡ message_limit
    from-long h =
        by_bool (eqb (length L) message_limit)
        (λ f. eqb-true (length L) message_limit f)
        (λ f. let z : length L < length L = rw (wrong-length f).0 at h in absurd (omega arith))

    pub composed : relisted (paste L from (drop from told.next.list) (length L - from)) told ≡ M.event whole e
    composed =
        by_bool (eqb (length L) message_limit)
        (λ f. let r = right-length f in rw (r.0, r.1) (tested-same (eqb-true (length L) message_limit f)))
        (λ f. let w = wrong-length f in rw (w.0, w.1) (turned_down L place t l n 13 refl))
