-- Every number of a run is at most twice the count of its events. This needs no invariant of the protocol.
use Prim.Native.Nat.{ℕ, suc, ◌+◌, ◌*◌, ◌≤◌, max}
use mathlib.Core.Path.{◌≡◌, refl}
use mathlib.Core.Bool.{Bool, true, false, not, ◌&&◌, cond}
use mathlib.Core.List.{List, [], ◌∷◌}
use mathlib.Core.Option.{Option, none, some}
use native.Mathlib.Omega.{arith}
use lib.Dec.{eqb, leb}
use Rattle.basics.specs.Helpers.{update, tally, first, without_first, All}
use Rattle.protocol.specs.Ask.{Ask, no_ask, is_no_ask}
use Rattle.protocol.specs.Message.{Message, request, reply, release, hand_over, inquire, fail, yield, transfer}
use Rattle.protocol.specs.Setting.{Setting}
use Rattle.protocol.specs.Local.{REST, WAITING, INSIDE, Local, View, view, send, with_arbiter, with_entries, with_queued}
use Rattle.protocol.specs.Arbiter.{from_holder, is_early, held_by_heir, head_of, before_holder, granted, granted_head, fail_to, former_told, fail_former, inquire_or_fail, answers, queued_up, on_request, early_release, on_release, heir_takes_over, on_hand_over, on_yield}
use Rattle.protocol.specs.Site.{yielded, entered, taken, failed_inquired, on_inquire, names_held, on_transfer, takes, on_reply, must_yield, fail_counts, on_fail, handled}
use Rattle.protocol.specs.System.{System, setting_of}
use Rattle.protocol.specs.Rig.{Row, Sent, Rig, row_of, channel, Event, ask, leave, deliver, lose, lost, without_entries, local_at, rows_taken, made, asked, left, all_held, with_effect, delivered, taken_off, step, run, fresh}
use Rattle.basics.proofs.Basics.{by_bool}
use Rattle.basics.proofs.Lists.{all_append, all_snoc, all_map, all_without}
use Rattle.protocol.proofs.Invariant.{number_of}
use Rattle.protocol.proofs.RigMessages.{all-sent_by, all-in_order}
use Rattle.protocol.proofs.Lost.{maybe-lost}

-- an event that document 01 knows: all but lost numbers
abbrev pub is_counted : Event → Bool
is_counted (ask s) = true
is_counted (leave s) = true
is_counted (deliver a b) = true
is_counted (lose p) = false

-- of a message
abbrev pub NumberBelow : ℕ → Message → Type 0
NumberBelow b m = number_of m ≤ b

-- of a row
pub record RowBelow (b : ℕ) (r : Row) : Type 0 where
  pub grant : r.grant ≤ b
  pub holder_ask : r.holder_ask.number ≤ b
  pub queued : (k : ℕ) → (r.queued k).number ≤ b
  pub held : (k : ℕ) → r.held k ≤ b
  pub inquired : (k : ℕ) → r.inquired k ≤ b

abbrev pub LocalBelow : ℕ → Local → Type 0
LocalBelow b t = RowBelow b (row_of t)

pub record ViewBelow (b : ℕ) (v : View) : Type 0 where
  pub tables : LocalBelow b v.tables
  pub messages : All (NumberBelow b) v.messages

-- an update with a small number, or with an ask of one
update-bounded : (f : ℕ → ℕ) (i x b : ℕ) → x ≤ b → ((k : ℕ) → f k ≤ b) → (k : ℕ) → update f i x k ≤ b
unfolding update
update-bounded f i x b l h k = by_bool (eqb k i) (λ e. rw e l) (λ e. rw e (h k))

asks-bounded : (f : ℕ → Ask) (i : ℕ) (a : Ask) (b : ℕ) → a.number ≤ b → ((k : ℕ) → (f k).number ≤ b) → (k : ℕ) → (update f i a k).number ≤ b
unfolding update
asks-bounded f i a b l h k = by_bool (eqb k i) (λ e. rw e l) (λ e. rw e (h k))

-- a larger bound
row_up : (b c : ℕ) (r : Row) → b ≤ c → RowBelow b r → RowBelow c r
row_up b c r l s = record { grant = let z = s.grant in omega arith; holder_ask = let z = s.holder_ask in omega arith; queued = λ k. let z = s.queued k in omega arith; held = λ k. let z = s.held k in omega arith; inquired = λ k. let z = s.inquired k in omega arith }

view-up : (b c : ℕ) (v : View) → b ≤ c → ViewBelow b v → ViewBelow c v
view-up b c v l s = record { tables = row_up b c (row_of v.tables) l s.tables; messages = all_map _ _ v.messages (λ m h. omega arith) s.messages }

-- one more message
send-bounded : (b : ℕ) (v : View) (m : Message) → number_of m ≤ b → ViewBelow b v → ViewBelow b (send v m)
send-bounded b v m l s = record { tables = s.tables; messages = all_snoc _ v.messages m s.messages l }

-- nothing is sent
nothing : (b : ℕ) (t : Local) → LocalBelow b t → ViewBelow b (view t [])
unfolding All
nothing b t s = record { tables = s; messages = tt }

-- each rule in turn: at most two more
yielded-bounded : (b : ℕ) (t : Local) (k : ℕ) → LocalBelow b t → ViewBelow b (yielded (view t []) k)
unfolding yielded
yielded-bounded b t k s = send-bounded b _ (yield k (t.held k)) (s.held k) (nothing b _ (record { grant = s.grant; holder_ask = s.holder_ask; queued = s.queued; held = update-bounded t.held k 0 b (omega arith) s.held; inquired = update-bounded t.inquired k 0 b (omega arith) s.inquired }))

on_inquire-bounded : (b : ℕ) (t : Local) (k n : ℕ) → n ≤ b → LocalBelow b t → ViewBelow b (on_inquire (view t []) k n)
unfolding on_inquire
on_inquire-bounded b t k n l s =
    let w = nothing b (with_entries t t.held t.heir (update t.inquired k n)) (record { grant = s.grant; holder_ask = s.holder_ask; queued = s.queued; held = s.held; inquired = update-bounded t.inquired k n b l s.inquired }) in
    by_bool (eqb (t.mode k) WAITING)
    (λ e. by_bool (eqb (t.held k) 0)
    (λ f. rw (e, f) w)
    (λ f. by_bool (eqb n (t.held k))
    (λ g. by_bool (t.failed k) (λ h. rw (e, f, g, h) (yielded-bounded b t k s)) (λ h. rw (e, f, g, h) w))
    (λ g. rw (e, f, g) (nothing b t s))))
    (λ e. rw e (nothing b t s))

on_transfer-bounded : (b : ℕ) (t : Local) (k x n : ℕ) → LocalBelow b t → ViewBelow b (on_transfer (view t []) k x n)
unfolding on_transfer
on_transfer-bounded b t k x n s = by_bool (names_held t k n)
    (λ e. rw e (nothing b _ (record { grant = s.grant; holder_ask = s.holder_ask; queued = s.queued; held = s.held; inquired = s.inquired })))
    (λ e. rw e (nothing b t s))

entered-bounded : (b : ℕ) (t : Local) (k : ℕ) → LocalBelow b t → ViewBelow b (entered (view t []) k)
unfolding entered
entered-bounded b t k s = nothing b _ (record { grant = s.grant; holder_ask = s.holder_ask; queued = s.queued; held = s.held; inquired = update-bounded t.inquired k 0 b (omega arith) s.inquired })

module _ (p : Setting) where
  pub on_fail-bounded : (b : ℕ) (t : Local) (k n : ℕ) → LocalBelow b t → ViewBelow b (on_fail p (view t []) k n)
  unfolding on_fail
  on_fail-bounded b t k n s = by_bool (fail_counts t.mode t.ask k n)
      (λ e. by_bool (must_yield p t k)
      (λ f. rw (e, f) (yielded-bounded b t k s))
      (λ f. rw (e, f) (nothing b _ (record { grant = s.grant; holder_ask = s.holder_ask; queued = s.queued; held = s.held; inquired = s.inquired }))))
      (λ e. rw e (nothing b t s))

  granted-bounded : (b : ℕ) (t : Local) (k : ℕ) (a : Ask) → a.number ≤ b → LocalBelow b t → ViewBelow (suc b) (granted p (view t []) k a)
  unfolding granted
  granted-bounded b t k a l s =
      let g = s.grant in
      let u : LocalBelow (suc b) (with_arbiter t (suc t.grant) k a (update t.queued k no_ask)) = record { grant = omega arith; holder_ask = omega arith; queued = asks-bounded t.queued k no_ask (suc b) (omega arith) (λ i. let z = s.queued i in omega arith); held = λ i. let z = s.held i in omega arith; inquired = λ i. let z = s.inquired i in omega arith } in
      let w = send-bounded (suc b) _ (reply p.arbiter k (suc t.grant)) (omega arith) (nothing (suc b) _ u) in
      by_bool (eqb (head_of p (update t.queued k no_ask)) 0)
      (λ e. rw e w)
      (λ e. rw e (send-bounded (suc b) _ (transfer k (head_of p (update t.queued k no_ask)) (suc t.grant)) (omega arith) w))

  granted_head-bounded : (b : ℕ) (t : Local) → LocalBelow b t → ViewBelow (suc b) (granted_head p (view t []))
  unfolding granted_head
  granted_head-bounded b t s = by_bool (eqb (head_of p t.queued) 0)
      (λ e. rw e (nothing (suc b) t (row_up b (suc b) (row_of t) (omega arith) s)))
      (λ e. rw e (granted-bounded b t (head_of p t.queued) (t.queued (head_of p t.queued)) (s.queued (head_of p t.queued)) s))

  answers-bounded : (b : ℕ) (t : Local) (k former : ℕ) → LocalBelow b t → ViewBelow b (answers p (view t []) k former)
  unfolding answers fail_former inquire_or_fail
  answers-bounded b t k former s = by_bool (eqb (head_of p t.queued) k)
      (λ h. by_bool (former_told p t k former)
      (λ e. rw (h, e) (ends _ s.grant (send-bounded b _ (fail_to t former) (s.queued former) (nothing b t s))))
      (λ e. rw (h, e) (ends _ s.grant (nothing b t s))))
      (λ h. rw h (send-bounded b _ (fail_to t k) (s.queued k) (nothing b t s)))
    where
      ends : (ms : List Message) → t.grant ≤ b → ViewBelow b (view t ms)
          → ViewBelow b (cond (before_holder p t k) (send (send (view t ms) (transfer t.holder k t.grant)) (inquire t.holder t.grant)) (send (send (view t ms) (transfer t.holder k t.grant)) (fail_to t k)))
      ends ms l w = by_bool (before_holder p t k)
          (λ e. rw e (send-bounded b _ (inquire t.holder t.grant) l (send-bounded b _ (transfer t.holder k t.grant) l w)))
          (λ e. rw e (send-bounded b _ (fail_to t k) (s.queued k) (send-bounded b _ (transfer t.holder k t.grant) l w)))

  on_request-bounded : (b : ℕ) (t : Local) (k : ℕ) (a : Ask) → a.number ≤ b → LocalBelow b t → ViewBelow (suc b) (on_request p (view t []) k a)
  unfolding on_request queued_up
  on_request-bounded b t k a l s =
      let u : LocalBelow b (with_queued t k a) = record { grant = s.grant; holder_ask = s.holder_ask; queued = asks-bounded t.queued k a b l s.queued; held = s.held; inquired = s.inquired } in
      by_bool (eqb t.holder 0)
      (λ e. rw e (granted-bounded b t k a l s))
      (λ e. rw e (view-up b (suc b) _ (omega arith) (answers-bounded b _ k (head_of p t.queued) u)))

  on_release-bounded : (b : ℕ) (t : Local) (k n : ℕ) → LocalBelow b t → ViewBelow (suc (suc b)) (on_release p (view t []) k n)
  unfolding on_release early_release
  on_release-bounded b t k n s =
      let g = s.grant in
      by_bool (from_holder t k n)
      (λ e. rw e (view-up (suc b) (suc (suc b)) _ (omega arith) (granted_head-bounded b _ (record { grant = s.grant; holder_ask = omega arith; queued = s.queued; held = s.held; inquired = s.inquired }))))
      (λ e. by_bool (is_early t k n)
      (λ f. rw (e, f) (granted_head-bounded (suc b) _ (record { grant = omega arith; holder_ask = omega arith; queued = asks-bounded t.queued k no_ask (suc b) (omega arith) (λ i. let z = s.queued i in omega arith); held = λ i. let z = s.held i in omega arith; inquired = λ i. let z = s.inquired i in omega arith })))
      (λ f. rw (e, f) (nothing _ t (row_up b (suc (suc b)) (row_of t) (omega arith) s))))

  on_hand_over-bounded : (b : ℕ) (t : Local) (k x n : ℕ) → LocalBelow b t → ViewBelow (suc b) (on_hand_over p (view t []) k x n)
  unfolding on_hand_over heir_takes_over
  on_hand_over-bounded b t k x n s =
      let g = s.grant in let qx = s.queued x in
      let u : LocalBelow (suc b) (held_by_heir t x) = record { grant = omega arith; holder_ask = omega arith; queued = asks-bounded t.queued x no_ask (suc b) (omega arith) (λ i. let z = s.queued i in omega arith); held = λ i. let z = s.held i in omega arith; inquired = λ i. let z = s.inquired i in omega arith } in
      let h = head_of p (update t.queued x no_ask) in
      by_bool (from_holder t k n)
      (λ e. by_bool (is_no_ask (t.queued x))
      (λ z. rw (e, z) (nothing (suc b) t (row_up b (suc b) (row_of t) (omega arith) s)))
      (λ z. by_bool (eqb h 0)
      (λ f. rw (e, z, f) (nothing (suc b) _ u))
      (λ f. let w = send-bounded (suc b) _ (transfer x h (suc t.grant)) (omega arith) (nothing (suc b) _ u) in
      by_bool (p.comes_before (update t.queued x no_ask h) h (t.queued x) x)
      (λ c. rw (e, z, f, c) (send-bounded (suc b) _ (inquire x (suc t.grant)) (omega arith) w))
      (λ c. rw (e, z, f, c) w))))
      (λ e. rw e (nothing (suc b) t (row_up b (suc b) (row_of t) (omega arith) s)))

  on_yield-bounded : (b : ℕ) (t : Local) (k n : ℕ) → LocalBelow b t → ViewBelow (suc b) (on_yield p (view t []) k n)
  unfolding on_yield
  on_yield-bounded b t k n s = by_bool (from_holder t k n)
      (λ e. rw e (granted_head-bounded b _ (record { grant = s.grant; holder_ask = omega arith; queued = asks-bounded t.queued k t.holder_ask b s.holder_ask s.queued; held = s.held; inquired = s.inquired })))
      (λ e. rw e (nothing (suc b) t (row_up b (suc b) (row_of t) (omega arith) s)))

  on_reply-bounded : (b : ℕ) (t : Local) (k n : ℕ) (ent : Bool) → n ≤ b → LocalBelow b t → ViewBelow b (on_reply p (view t []) k n ent)
  unfolding on_reply
  on_reply-bounded b t k n ent l s =
      let u : LocalBelow b (taken t k n) = record {
        grant = s.grant;
        holder_ask = s.holder_ask;
        queued = s.queued;
        held = update-bounded t.held k n b l s.held;
        inquired = update-bounded t.inquired k _ b (by_bool (eqb (t.inquired k) n) (λ e. rw e l) (λ e. rw e (omega arith))) s.inquired;
      } in
      by_bool (takes p t k)
      (λ e. by_bool ent
      (λ f. rw (e, f) (entered-bounded b _ k u))
      (λ f. by_bool (failed_inquired (taken t k n) k)
      (λ g. rw (e, f, g) (yielded-bounded b _ k u))
      (λ g. rw (e, f, g) (nothing b _ u))))
      (λ e. rw e (nothing b t s))

  pub handled-bounded : (b : ℕ) (t : Local) (ent : Bool) (m : Message) → number_of m ≤ b → LocalBelow b t → ViewBelow (suc (suc b)) (handled p (view t []) ent m)
  unfolding handled
  handled-bounded b t ent (request k a) l s = view-up (suc b) _ _ (omega arith) (on_request-bounded b t k a l s)
  handled-bounded b t ent (reply f k n) l s = view-up b _ _ (omega arith) (on_reply-bounded b t k n ent l s)
  handled-bounded b t ent (release k n) l s = on_release-bounded b t k n s
  handled-bounded b t ent (hand_over k x n) l s = view-up (suc b) _ _ (omega arith) (on_hand_over-bounded b t k x n s)
  handled-bounded b t ent (inquire k n) l s = view-up b _ _ (omega arith) (on_inquire-bounded b t k n l s)
  handled-bounded b t ent (fail k n) l s = view-up b _ _ (omega arith) (on_fail-bounded b t k n s)
  handled-bounded b t ent (yield k n) l s = view-up (suc b) _ _ (omega arith) (on_yield-bounded b t k n s)
  handled-bounded b t ent (transfer k x n) l s = view-up b _ _ (omega arith) (on_transfer-bounded b t k x n s)

-- of the messages of all arbiters, and of the rig
abbrev pub SentBelow : ℕ → Sent → Type 0
SentBelow b x = number_of x.message ≤ b

pub record RigBelow (b : ℕ) (r : Rig) : Type 0 where
  pub clock : (k : ℕ) → r.clock k ≤ b
  pub ask : (k : ℕ) → (r.sites.ask k).number ≤ b
  pub rows : (j : ℕ) → RowBelow b (r.rows j)
  pub under_way : All (SentBelow b) r.under_way

-- of fails without their numbers
all-lost : (b : ℕ) (p : ℕ → Bool) (xs : List Sent) → All (SentBelow b) xs → All (SentBelow b) (lost p xs)
unfolding All lost
all-lost b p [] a = tt
all-lost b p (x ∷ xs) a = (maybe-lost (λ u v. number_of u ≤ b → number_of v ≤ b) (λ u h. h) (λ k n h. omega arith) (p 0) x.message a.0, all-lost b (λ i. p (suc i)) xs a.1)

pub rig-up : (b c : ℕ) (r : Rig) → b ≤ c → RigBelow b r → RigBelow c r
rig-up b c r l s = record { clock = λ k. let z = s.clock k in omega arith; ask = λ k. let z = s.ask k in omega arith; rows = λ j. row_up b c (r.rows j) l (s.rows j); under_way = all_map _ _ r.under_way (λ x h. omega arith) s.under_way }

module _ (y : System) where
  -- each event in turn: at most two more
  without_entries-bounded : (b : ℕ) (r : Row) (s : ℕ) → RowBelow b r → RowBelow b (without_entries r s)
  without_entries-bounded b r s h = record { grant = h.grant; holder_ask = h.holder_ask; queued = h.queued; held = update-bounded r.held s 0 b (omega arith) h.held; inquired = update-bounded r.inquired s 0 b (omega arith) h.inquired }

  asked-bounded : (b : ℕ) (r : Rig) (s : ℕ) → RigBelow b r → RigBelow (suc b) (asked y r s)
  unfolding asked All
  asked-bounded b r s h0 =
      let h = rig-up b (suc b) r (omega arith) h0 in
      let n = h0.clock s in
      record {
        clock = update-bounded r.clock s (suc (r.clock s)) (suc b) (omega arith) h.clock;
        ask = asks-bounded r.sites.ask s (made r s) (suc b) (omega arith) h.ask;
        rows = λ j. without_entries-bounded (suc b) (r.rows j) s (h.rows j);
        under_way = all_append _ r.under_way _ h.under_way (all-in_order (NumberBelow (suc b)) _ y.size (λ j. by_bool (y.sets s j) (λ e. rw e (omega arith, tt)) (λ e. rw e tt)));
      }

  left-bounded : (b : ℕ) (r : Rig) (s : ℕ) → RigBelow b r → RigBelow (suc b) (left y r s)
  unfolding left All
  left-bounded b r s h0 =
      let h = rig-up b (suc b) r (omega arith) h0 in
      record {
        clock = h.clock;
        ask = h.ask;
        rows = λ j. without_entries-bounded (suc b) (r.rows j) s (h.rows j);
        under_way = all_append _ r.under_way _ h.under_way (all-in_order (NumberBelow (suc b)) _ y.size (λ j. let n = (h0.rows j).held s in
            by_bool (y.sets s j && not (eqb ((r.rows j).held s) 0))
            (λ e. by_bool (eqb ((r.rows j).heir s) 0) (λ f. rw (e, f) (omega arith, tt)) (λ f. rw (e, f) (omega arith, (omega arith, tt))))
            (λ e. rw e tt)));
      }

  with_effect-bounded : (b : ℕ) (r : Rig) (rest : List Sent) (clock : ℕ → ℕ) (j : ℕ) (m : Message) → RigBelow b r → ((k : ℕ) → clock k ≤ b) → All (SentBelow b) rest → number_of m ≤ b → RigBelow (suc (suc b)) (with_effect y r rest clock j m)
  unfolding update
  with_effect-bounded b r rest clock j m h0 c a l =
      let h = rig-up b (suc (suc b)) r (omega arith) h0 in
      let v = handled-bounded (setting_of y j) b (local_at r j) false m l (h0.rows j) in
      record {
        clock = λ k. let z = c k in omega arith;
        ask = h.ask;
        rows = λ i. by_bool (eqb i j) (λ e. rw e (v.tables)) (λ e. rw e (h.rows i));
        under_way = all_append _ rest _ (all_map _ _ rest (λ x z. omega arith) a) (all-sent_by (NumberBelow _) j _ v.messages);
      }

  delivered-bounded : (b : ℕ) (r : Rig) (rest : List Sent) (j : ℕ) (m : Message) → RigBelow b r → All (SentBelow b) rest → number_of m ≤ b → RigBelow (suc (suc b)) (delivered y r rest j m)
  unfolding delivered update
  delivered-bounded b r rest j (request k new) h a l = with_effect-bounded b r rest (update r.clock j (max (r.clock j) new.number)) j (request k new) h
      (update-bounded r.clock j _ b (let c = h.clock j in omega arith) h.clock) a l
  delivered-bounded b r rest j (release k n) h a l = with_effect-bounded b r rest r.clock j (release k n) h h.clock a l
  delivered-bounded b r rest j (hand_over k x n) h a l = with_effect-bounded b r rest r.clock j (hand_over k x n) h h.clock a l
  delivered-bounded b r rest j (yield k n) h a l = with_effect-bounded b r rest r.clock j (yield k n) h h.clock a l
  delivered-bounded b r rest j (inquire k n) h a l = with_effect-bounded b r rest r.clock j (inquire k n) h h.clock a l
  delivered-bounded b r rest j (transfer k x n) h a l = with_effect-bounded b r rest r.clock j (transfer k x n) h h.clock a l
  delivered-bounded b r rest j (fail k n) h a l = rig-up b (suc (suc b)) _ (omega arith) (record {
    clock = h.clock;
    ask = h.ask;
    rows = λ i. (on_fail-bounded (setting_of y i) b (local_at r i) k n (h.rows i)).tables;
    under_way = all_append _ rest _ a (all-in_order (NumberBelow b) _ y.size (λ i. (on_fail-bounded (setting_of y i) b (local_at r i) k n (h.rows i)).messages));
  })
  delivered-bounded b r rest j (reply f k n) h0 a l =
      let h = rig-up b (suc (suc b)) r (omega arith) h0 in
      let v = handled-bounded (setting_of y j) b (local_at r j) (all_held y (rows_taken r j k n) k) (reply f k n) l (h0.rows j) in
      let m = all_append _ rest _ (all_map _ _ rest (λ x z. omega arith) a) (all-sent_by (NumberBelow _) j _ v.messages) in
      by_bool (takes (setting_of y j) (local_at r j) k && all_held y (rows_taken r j k n) k)
      (λ go. rw go (record {
        clock = h.clock;
        ask = λ i. by_bool (eqb i k) (λ e. rw e (omega arith)) (λ e. rw e (h.ask i));
        under_way = m;
        rows = λ i. by_bool (eqb i j) (λ e. rw e (v.tables))
            (λ e. rw e (let w = h.rows i in record { grant = w.grant; holder_ask = w.holder_ask; queued = w.queued; held = w.held; inquired = λ x. by_bool (eqb x k) (λ u. rw u (omega arith)) (λ u. rw u (w.inquired x)) }));
      }))
      (λ go. rw go (record {
        clock = h.clock;
        ask = h.ask;
        under_way = m;
        rows = λ i. by_bool (eqb i j) (λ e. rw e (v.tables)) (λ e. rw e (h.rows i));
      }))

  taken_off-bounded : (b : ℕ) (r : Rig) (a c : ℕ) (x : Option Sent) → first (channel a c) r.under_way ≡ x → RigBelow b r → RigBelow (suc (suc b)) (taken_off y r a c x)
  unfolding taken_off All
  taken_off-bounded b r a c none e h = rig-up b _ r (omega arith) h
  taken_off-bounded b r a c (some x) e h = let m = all_without (channel a c) (SentBelow b) r.under_way x e h.under_way in delivered-bounded b r (without_first (channel a c) r.under_way) x.arbiter x.message h m.1 m.0

  lose-bounded : (b : ℕ) (r : Rig) (p : ℕ → Bool) → RigBelow b r → RigBelow b (step y r (lose p))
  unfolding step
  lose-bounded b r p h = record { clock = h.clock; ask = h.ask; rows = h.rows; under_way = all-lost b p r.under_way h.under_way }

  pub step-bounded : (b : ℕ) (r : Rig) (e : Event) → RigBelow b r → RigBelow (suc (suc b)) (step y r e)
  unfolding step
  step-bounded b r (ask s) h = by_bool ((leb 1 s && leb s y.size) && eqb (r.sites.mode s) REST)
      (λ e. rw e (rig-up (suc b) _ _ (omega arith) (asked-bounded b r s h))) (λ e. rw e (rig-up b _ r (omega arith) h))
  step-bounded b r (leave s) h = by_bool (eqb (r.sites.mode s) INSIDE)
      (λ e. rw e (rig-up (suc b) _ _ (omega arith) (left-bounded b r s h))) (λ e. rw e (rig-up b _ r (omega arith) h))
  step-bounded b r (deliver a c) h = taken_off-bounded b r a c (first (channel a c) r.under_way) refl h
  step-bounded b r (lose p) h = rig-up b _ _ (omega arith) (lose-bounded b r p h)

  -- so a run adds at most two for each event that is counted
  pub run-bounded : (es : List Event) (b : ℕ) (r : Rig) → RigBelow b r → RigBelow (b + 2 * tally is_counted es) (run y es r)
  unfolding run tally
  run-bounded [] b r h = rig-up b _ r (omega arith) h
  run-bounded (ask s ∷ es) b r h = rig-up (suc (suc b) + 2 * tally is_counted es) _ _ (omega arith) (run-bounded es (suc (suc b)) _ (step-bounded b r (ask s) h))
  run-bounded (leave s ∷ es) b r h = rig-up (suc (suc b) + 2 * tally is_counted es) _ _ (omega arith) (run-bounded es (suc (suc b)) _ (step-bounded b r (leave s) h))
  run-bounded (deliver a c ∷ es) b r h = rig-up (suc (suc b) + 2 * tally is_counted es) _ _ (omega arith) (run-bounded es (suc (suc b)) _ (step-bounded b r (deliver a c) h))
  run-bounded (lose p ∷ es) b r h = rig-up (b + 2 * tally is_counted es) _ _ (omega arith) (run-bounded es b _ (lose-bounded b r p h))

  -- every clock and number of a run is at most twice its events
  pub run-numbers : (es : List Event) → RigBelow (2 * tally is_counted es) (run y es fresh)
  unfolding fresh All
  run-numbers es = rig-up (0 + 2 * tally is_counted es) (2 * tally is_counted es) _ (omega arith) (run-bounded es 0 fresh (record { clock = λ k. omega arith; ask = λ k. omega arith; rows = λ j. record { grant = omega arith; holder_ask = omega arith; queued = λ k. omega arith; held = λ k. omega arith; inquired = λ k. omega arith }; under_way = tt }))
