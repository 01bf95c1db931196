-- Every request, every queue entry, every holder's entry and every fail has the number of an ask that its site has made: no rule makes
-- a number up. This needs no invariant of the protocol; of the laws it needs only that the head of a queue is queued.
use Prim.Native.Nat.{ℕ, suc, max}
use mathlib.Core.Path.{◌≡◌, refl}
use mathlib.Core.Logic.{◌≢◌}
use mathlib.Core.Bool.{Bool, true, false, not, ◌&&◌, cond}
use mathlib.Core.List.{List, []}
use mathlib.Core.Option.{Option, none, some}
use lib.Dec.{eqb, leb}
use borrow.Author.Tests.{eqb-true, eqb-false, not-true}
use Rattle.basics.specs.Helpers.{update, first, without_first, All}
use Rattle.protocol.specs.Ask.{Ask, no_ask, is_no_ask}
use Rattle.protocol.specs.Message.{Message, request, reply, release, hand_over, inquire, fail, yield, transfer}
use Rattle.protocol.specs.Setting.{Setting, SettingLaw}
use Rattle.protocol.specs.Local.{REST, WAITING, INSIDE, Local, View, view, send, with_arbiter, with_queued}
use Rattle.protocol.specs.Arbiter.{from_holder, is_early, held_by_heir, head_of, before_holder, granted, granted_head, fail_to, former_told, fail_former, inquire_or_fail, answers, queued_up, on_request, early_release, on_release, heir_takes_over, on_hand_over, on_yield}
use Rattle.protocol.specs.Site.{yielded, entered, taken, failed_inquired, on_inquire, names_held, on_transfer, takes, on_reply, must_yield, fail_counts, on_fail, handled}
use Rattle.protocol.specs.System.{System, Lawful, setting_of}
use Rattle.protocol.specs.Rig.{Row, Sent, Rig, row_of, channel, Event, ask, leave, deliver, lose, local_at, rows_taken, asked, left, all_held, with_effect, delivered, taken_off, step, fresh}
use Rattle.basics.proofs.Basics.{by_bool, and_split, update_same, update_other}
use Rattle.basics.proofs.Lists.{all_append, all_snoc, all_without}
use Rattle.protocol.proofs.RigMessages.{all-sent_by, all-in_order}
use Rattle.protocol.proofs.Head.{head-of}
use Rattle.protocol.proofs.Seen.{law-of}

-- Made k n: site k has made an ask with number n
module _ (Made : ℕ → ℕ → Type 0) where
  -- none, or an ask that site k has made
  abbrev pub Own : ℕ → Ask → Type 0
  Own k a = a.number ≢ 0 → Made k a.number

  pub record RowNamed (r : Row) : Type 0 where
    pub holder : Own r.holder r.holder_ask
    pub queued : (k : ℕ) → Own k (r.queued k)

  abbrev pub MessageNamed : Message → Type 0
  MessageNamed (request k a) = Made k a.number
  MessageNamed (reply f k n) = Unit {0}
  MessageNamed (release k n) = Unit {0}
  MessageNamed (hand_over k x n) = Unit {0}
  MessageNamed (inquire k n) = Unit {0}
  MessageNamed (fail k n) = Made k n
  MessageNamed (yield k n) = Unit {0}
  MessageNamed (transfer k x n) = Unit {0}

  abbrev pub LocalNamed : Local → Type 0
  LocalNamed t = RowNamed (row_of t)

  pub record ViewNamed (v : View) : Type 0 where
    pub tables : LocalNamed v.tables
    pub messages : All MessageNamed v.messages

  no-ask : (k : ℕ) → Own k no_ask
  no-ask k z = absurd (z refl)

  update-named : (q : ℕ → Ask) (i : ℕ) (a : Ask) → Own i a → ((k : ℕ) → Own k (q k)) → (k : ℕ) → Own k (update q i a k)
  unfolding update
  update-named q i a o h k = by_bool (eqb k i) (λ e. rw (e, eqb-true k i e) o) (λ e. rw e (h k))

  -- one more message
  send-named : (v : View) (m : Message) → MessageNamed m → ViewNamed v → ViewNamed (send v m)
  send-named v m n s = record { tables = s.tables; messages = all_snoc _ v.messages m s.messages n }

  -- nothing is sent
  nothing : (t : Local) → LocalNamed t → ViewNamed (view t [])
  unfolding All
  nothing t s = record { tables = s; messages = tt }

  -- nothing is sent, holder and queue stay
  stays : (t u : Local) → u.holder ≡ t.holder → u.holder_ask ≡ t.holder_ask → u.queued ≡ t.queued → LocalNamed t → ViewNamed (view u [])
  stays t u e f g s = nothing u (record { holder = rw (e, f) s.holder; queued = rw g s.queued })

  -- each rule in turn
  yielded-named : (t : Local) (k : ℕ) → LocalNamed t → ViewNamed (yielded (view t []) k)
  unfolding yielded
  yielded-named t k s = send-named _ (yield k (t.held k)) tt (stays t _ refl refl refl s)

  on_inquire-named : (t : Local) (k n : ℕ) → LocalNamed t → ViewNamed (on_inquire (view t []) k n)
  unfolding on_inquire
  on_inquire-named t k n s = by_bool (eqb (t.mode k) WAITING)
      (λ e. by_bool (eqb (t.held k) 0)
      (λ f. rw (e, f) (stays t _ refl refl refl s))
      (λ f. by_bool (eqb n (t.held k))
      (λ g. by_bool (t.failed k) (λ h. rw (e, f, g, h) (yielded-named t k s)) (λ h. rw (e, f, g, h) (stays t _ refl refl refl s)))
      (λ g. rw (e, f, g) (nothing t s))))
      (λ e. rw e (nothing t s))

  on_transfer-named : (t : Local) (k x n : ℕ) → LocalNamed t → ViewNamed (on_transfer (view t []) k x n)
  unfolding on_transfer
  on_transfer-named t k x n s = by_bool (names_held t k n) (λ e. rw e (stays t _ refl refl refl s)) (λ e. rw e (nothing t s))

  module _ (p : Setting) where
    on_fail-named : (t : Local) (k n : ℕ) → LocalNamed t → ViewNamed (on_fail p (view t []) k n)
    unfolding on_fail
    on_fail-named t k n s = by_bool (fail_counts t.mode t.ask k n)
        (λ e. by_bool (must_yield p t k) (λ f. rw (e, f) (yielded-named t k s)) (λ f. rw (e, f) (stays t _ refl refl refl s)))
        (λ e. rw e (nothing t s))

    on_reply-named : (t : Local) (k n : ℕ) (ent : Bool) → LocalNamed t → ViewNamed (on_reply p (view t []) k n ent)
    unfolding on_reply entered
    on_reply-named t k n ent s =
        let u : LocalNamed (taken t k n) = record { holder = s.holder; queued = s.queued } in
        by_bool (takes p t k)
        (λ e. by_bool ent
        (λ f. rw (e, f) (stays t _ refl refl refl s))
        (λ f. by_bool (failed_inquired (taken t k n) k)
        (λ g. rw (e, f, g) (yielded-named _ k u))
        (λ g. rw (e, f, g) (nothing _ u))))
        (λ e. rw e (nothing t s))

    granted-named : (t : Local) (k : ℕ) (a : Ask) → Own k a → LocalNamed t → ViewNamed (granted p (view t []) k a)
    unfolding granted
    granted-named t k a o s =
        let u : LocalNamed (with_arbiter t (suc t.grant) k a (update t.queued k no_ask)) = record { holder = o; queued = update-named t.queued k no_ask (no-ask k) s.queued } in
        let w = send-named _ (reply p.arbiter k (suc t.grant)) tt (nothing _ u) in
        by_bool (eqb (head_of p (update t.queued k no_ask)) 0)
        (λ e. rw e w)
        (λ e. rw e (send-named _ (transfer k (head_of p (update t.queued k no_ask)) (suc t.grant)) tt w))

    granted_head-named : (t : Local) → LocalNamed t → ViewNamed (granted_head p (view t []))
    unfolding granted_head
    granted_head-named t s = by_bool (eqb (head_of p t.queued) 0)
        (λ e. rw e (nothing t s))
        (λ e. rw e (granted-named t (head_of p t.queued) (t.queued (head_of p t.queued)) (s.queued (head_of p t.queued)) s))

    -- k is queued with an ask that it has made, and so is the former head, if it is told
    answers-named : (t : Local) (k former : ℕ) → Made k (t.queued k).number → (former ≢ 0 → former ≢ k → Made former (t.queued former).number) → LocalNamed t → ViewNamed (answers p (view t []) k former)
    unfolding answers fail_former inquire_or_fail
    answers-named t k former m f s = by_bool (eqb (head_of p t.queued) k)
        (λ h. by_bool (former_told p t k former)
        (λ e. rw (h, e) (ends _ (send-named _ (fail_to t former) (told e) (nothing t s))))
        (λ e. rw (h, e) (ends _ (nothing t s))))
        (λ h. rw h (send-named _ (fail_to t k) m (nothing t s)))
      where
        told : former_told p t k former ≡ true → Made former (t.queued former).number
        told e =
            let (z, w) = and_split (not (eqb former 0)) (not (eqb former k) && before_holder p t former) e in
            f (eqb-false former 0 (not-true _ z)) (eqb-false former k (not-true _ (and_split (not (eqb former k)) (before_holder p t former) w).0))

        ends : (ms : List Message) → ViewNamed (view t ms)
            → ViewNamed (cond (before_holder p t k) (send (send (view t ms) (transfer t.holder k t.grant)) (inquire t.holder t.grant)) (send (send (view t ms) (transfer t.holder k t.grant)) (fail_to t k)))
        ends ms w = by_bool (before_holder p t k)
            (λ e. rw e (send-named _ (inquire t.holder t.grant) tt (send-named _ (transfer t.holder k t.grant) tt w)))
            (λ e. rw e (send-named _ (fail_to t k) m (send-named _ (transfer t.holder k t.grant) tt w)))

    on_request-named : SettingLaw p → (t : Local) (k : ℕ) (a : Ask) → Made k a.number → LocalNamed t → ViewNamed (on_request p (view t []) k a)
    unfolding on_request queued_up
    on_request-named law t k a m s =
        let u : LocalNamed (with_queued t k a) = record { holder = s.holder; queued = update-named t.queued k a (λ z. m) s.queued } in
        let h = head_of p t.queued in
        by_bool (eqb t.holder 0)
        (λ e. rw e (granted-named t k a (λ z. m) s))
        (λ e. rw e (answers-named (with_queued t k a) k h
        (rw (update_same t.queued k a) m)
        (λ z ne. rw (update_other t.queued k a h ne) (s.queued h ((head-of p law t.queued p.size).found z).2))
        u))

    on_release-named : (t : Local) (k n : ℕ) → LocalNamed t → ViewNamed (on_release p (view t []) k n)
    unfolding on_release early_release
    on_release-named t k n s = by_bool (from_holder t k n)
        (λ e. rw e (granted_head-named _ (record { holder = no-ask 0; queued = s.queued })))
        (λ e. by_bool (is_early t k n)
        (λ f. rw (e, f) (granted_head-named _ (record { holder = no-ask 0; queued = update-named t.queued k no_ask (no-ask k) s.queued })))
        (λ f. rw (e, f) (nothing t s)))

    on_hand_over-named : (t : Local) (k x n : ℕ) → LocalNamed t → ViewNamed (on_hand_over p (view t []) k x n)
    unfolding on_hand_over heir_takes_over
    on_hand_over-named t k x n s =
        let u : LocalNamed (held_by_heir t x) = record { holder = s.queued x; queued = update-named t.queued x no_ask (no-ask x) s.queued } in
        let h = head_of p (update t.queued x no_ask) in
        let w = send-named _ (transfer x h (suc t.grant)) tt (nothing _ u) in
        by_bool (from_holder t k n)
        (λ e. by_bool (is_no_ask (t.queued x))
        (λ z. rw (e, z) (nothing t s))
        (λ z. by_bool (eqb h 0)
        (λ f. rw (e, z, f) (nothing _ u))
        (λ f. by_bool (before_holder p (held_by_heir t x) h)
        (λ c. rw (e, z, f, c) (send-named _ (inquire x (suc t.grant)) tt w))
        (λ c. rw (e, z, f, c) w))))
        (λ e. rw e (nothing t s))

    on_yield-named : (t : Local) (k n : ℕ) → LocalNamed t → ViewNamed (on_yield p (view t []) k n)
    unfolding on_yield
    on_yield-named t k n s = by_bool (from_holder t k n)
        (λ e. let kh = eqb-true k t.holder (and_split (eqb n t.grant) (eqb k t.holder) e).1 in
        let o : Own k t.holder_ask = rw kh s.holder in
        rw e (granted_head-named _ (record { holder = no-ask 0; queued = update-named t.queued k t.holder_ask o s.queued })))
        (λ e. rw e (nothing t s))

    handled-named : SettingLaw p → (t : Local) (ent : Bool) (m : Message) → MessageNamed m → LocalNamed t → ViewNamed (handled p (view t []) ent m)
    unfolding handled
    handled-named law t ent (request k a) n s = on_request-named law t k a n s
    handled-named law t ent (reply f k g) n s = on_reply-named t k g ent s
    handled-named law t ent (release k g) n s = on_release-named t k g s
    handled-named law t ent (hand_over k x g) n s = on_hand_over-named t k x g s
    handled-named law t ent (inquire k g) n s = on_inquire-named t k g s
    handled-named law t ent (fail k a) n s = on_fail-named t k a s
    handled-named law t ent (yield k g) n s = on_yield-named t k g s
    handled-named law t ent (transfer k x g) n s = on_transfer-named t k x g s

  -- of the messages of all arbiters, and of the rig
  abbrev pub SentNamed : Sent → Type 0
  SentNamed x = MessageNamed x.message

  pub record RigNamed (r : Rig) : Type 0 where
    pub rows : (j : ℕ) → RowNamed (r.rows j)
    pub under_way : All SentNamed r.under_way

  -- an event in which no number is lost, and an ask only with a number that counts as made
  abbrev pub Asked : Rig → Event → Type 0
  Asked r (ask s) = Made s (suc (r.clock s))
  Asked r (leave s) = Unit {0}
  Asked r (deliver a b) = Unit {0}
  Asked r (lose p) = ⊥

  pub fresh-named : RigNamed fresh
  unfolding fresh All
  fresh-named = record { rows = λ j. record { holder = no-ask 0; queued = no-ask }; under_way = tt }

  module _ (y : System) (lw : Lawful y) where
    -- each event in turn
    asked-named : (r : Rig) (s : ℕ) → Made s (suc (r.clock s)) → RigNamed r → RigNamed (asked y r s)
    unfolding asked All
    asked-named r s m h = record {
      rows = λ j. record { holder = (h.rows j).holder; queued = (h.rows j).queued };
      under_way = all_append _ r.under_way _ h.under_way (all-in_order MessageNamed _ y.size (λ j. by_bool (y.sets s j) (λ e. rw e (m, tt)) (λ e. rw e tt)));
    }

    left-named : (r : Rig) (s : ℕ) → RigNamed r → RigNamed (left y r s)
    unfolding left All
    left-named r s h = record {
      rows = λ j. record { holder = (h.rows j).holder; queued = (h.rows j).queued };
      under_way = all_append _ r.under_way _ h.under_way (all-in_order MessageNamed _ y.size (λ j.
          by_bool (y.sets s j && not (eqb ((r.rows j).held s) 0))
          (λ e. by_bool (eqb ((r.rows j).heir s) 0) (λ f. rw (e, f) (tt, tt)) (λ f. rw (e, f) (tt, (tt, tt))))
          (λ e. rw e tt)));
    }

    with_effect-named : (r : Rig) (rest : List Sent) (clock : ℕ → ℕ) (j : ℕ) (m : Message) → RigNamed r → All SentNamed rest → MessageNamed m → RigNamed (with_effect y r rest clock j m)
    unfolding update
    with_effect-named r rest clock j m h a n =
        let v = handled-named (setting_of y j) (law-of y lw j) (local_at r j) false m n (h.rows j) in
        record {
          rows = λ i. by_bool (eqb i j) (λ e. rw e v.tables) (λ e. rw e (h.rows i));
          under_way = all_append _ rest _ a (all-sent_by MessageNamed j _ v.messages);
        }

    delivered-named : (r : Rig) (rest : List Sent) (j : ℕ) (m : Message) → RigNamed r → All SentNamed rest → MessageNamed m → RigNamed (delivered y r rest j m)
    unfolding delivered
    delivered-named r rest j (request k new) h a n = with_effect-named r rest (update r.clock j (max (r.clock j) new.number)) j (request k new) h a n
    delivered-named r rest j (release k g) h a n = with_effect-named r rest r.clock j (release k g) h a n
    delivered-named r rest j (hand_over k x g) h a n = with_effect-named r rest r.clock j (hand_over k x g) h a n
    delivered-named r rest j (yield k g) h a n = with_effect-named r rest r.clock j (yield k g) h a n
    delivered-named r rest j (inquire k g) h a n = with_effect-named r rest r.clock j (inquire k g) h a n
    delivered-named r rest j (transfer k x g) h a n = with_effect-named r rest r.clock j (transfer k x g) h a n
    delivered-named r rest j (fail k g) h a n =
        let v : (i : ℕ) → ViewNamed (on_fail (setting_of y i) (view (local_at r i) []) k g) = λ i. on_fail-named (setting_of y i) (local_at r i) k g (h.rows i) in
        record { rows = λ i. (v i).tables; under_way = all_append _ rest _ a (all-in_order MessageNamed _ y.size (λ i. (v i).messages)) }
    delivered-named r rest j (reply f k g) h a n =
        let v = handled-named (setting_of y j) (law-of y lw j) (local_at r j) (all_held y (rows_taken r j k g) k) (reply f k g) tt (h.rows j) in
        record {
          rows = λ i. by_bool (eqb i j) (λ e. rw e v.tables)
              (λ e. by_bool (takes (setting_of y j) (local_at r j) k && all_held y (rows_taken r j k g) k)
              (λ go. rw (e, go) (record { holder = (h.rows i).holder; queued = (h.rows i).queued }))
              (λ go. rw (e, go) (h.rows i)));
          under_way = all_append _ rest _ a (all-sent_by MessageNamed j _ v.messages);
        }

    taken_off-named : (r : Rig) (a b : ℕ) (x : Option Sent) → first (channel a b) r.under_way ≡ x → RigNamed r → RigNamed (taken_off y r a b x)
    unfolding taken_off All
    taken_off-named r a b none e h = h
    taken_off-named r a b (some x) e h = let m = all_without (channel a b) SentNamed r.under_way x e h.under_way in delivered-named r (without_first (channel a b) r.under_way) x.arbiter x.message h m.1 m.0

    pub step-named : (r : Rig) (e : Event) → Asked r e → RigNamed r → RigNamed (step y r e)
    unfolding step
    step-named r (ask s) m h = by_bool ((leb 1 s && leb s y.size) && eqb (r.sites.mode s) REST) (λ e. rw e (asked-named r s m h)) (λ e. rw e h)
    step-named r (leave s) m h = by_bool (eqb (r.sites.mode s) INSIDE) (λ e. rw e (left-named r s h)) (λ e. rw e h)
    step-named r (deliver a b) m h = taken_off-named r a b (first (channel a b) r.under_way) refl h
    step-named r (lose p) m h = absurd m
