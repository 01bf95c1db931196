-- The clauses follow from the invariant: the ghosts are read off, message by message and table by table.
use Prim.Native.Nat.{ℕ, suc, ◌+◌, ◌≤◌, ◌<◌}
use mathlib.Core.Path.{◌≡◌, refl, sym, ap, ◌∙◌}
use mathlib.Core.Logic.{◌⊎◌, inl, inr, ◌≢◌}
use mathlib.Core.Bool.{true, false, not, ◌&&◌, ◌||◌, cond}
use mathlib.Core.List.{List, [], ◌∷◌}
use native.Mathlib.Omega.{arith}
use lib.Dec.{eqb}
use borrow.Author.Tests.{eqb-true, eqb-false, eq-eqb, ne_eqb}
use Rattle.basics.specs.Helpers.{count, tally}
use Rattle.protocol.specs.Message.{Message, request, reply, release, hand_over, inquire, fail, yield, transfer, REPLY, RELEASE, HANDOVER, kind, is_out, is_back}
use Rattle.protocol.specs.Setting.{Setting, SettingLaw}
use Rattle.protocol.specs.Local.{REST, WAITING, INSIDE, Local, View, view}
use Rattle.protocol.specs.Arbiter.{head_of, before_holder}
use Rattle.basics.proofs.Basics.{by_bool, and_split, count_none, count-one}
use Rattle.basics.proofs.Lists.{all_map, all-some, all_none, tally-mono}
use Rattle.protocol.proofs.Asks.{same_number}
use Rattle.protocol.proofs.Invariant.{Ghost, FREE, OUT, HELD, YIELDED, RELEASED, site_of, number_of, heir_of, carries_permission, is_request_of, is_hand_over, is_fail_for, is_inquire, Situation, situation, Fits, Core, InvariantWith, Invariant}
use Rattle.protocol.proofs.Fitting.{fits-permission, permission-replied, permission-released, fits-hand_over, no-request}
use Rattle.protocol.proofs.Kept.Granted.{queued-member}
use Rattle.protocol.proofs.Clauses.{is_reply, is_reply_to, is_release, is_any_release, HandOverTo, FitsTables, Clauses}

-- how the tests of messages follow from one another
release-any : (k n : ℕ) (m : Message) → is_release k n m ≡ true → is_any_release k n m ≡ true
release-any k n m e =
    let w = and_split (eqb (kind m) RELEASE) (eqb k (site_of m) && eqb n (number_of m)) e in
    rw (eqb-true (kind m) RELEASE w.0) w.1

hand_over-any : (h x n : ℕ) (m : Message) → is_hand_over h x n m ≡ true → is_any_release h n m ≡ true
hand_over-any h x n m e =
    let w = and_split (eqb (kind m) HANDOVER) (eqb h (site_of m) && (eqb x (heir_of m) && eqb n (number_of m))) e in
    let v = and_split (eqb h (site_of m)) (eqb x (heir_of m) && eqb n (number_of m)) w.1 in
    rw (eqb-true (kind m) HANDOVER w.0, v.0) (and_split (eqb x (heir_of m)) (eqb n (number_of m)) v.1).1

reply-any : (k n : ℕ) (m : Message) → is_reply k n m ≡ true → is_reply_to k m ≡ true
reply-any k n m e =
    let w = and_split (eqb (kind m) REPLY) (eqb k (site_of m) && eqb n (number_of m)) e in
    rw w.0 (and_split (eqb k (site_of m)) (eqb n (number_of m)) w.1).0

-- out and back together are what carries the permission
out-not-back : (m : Message) → is_out m ≡ true → is_back m ≡ false
out-not-back m e = rw (eqb-true (kind m) REPLY e)

split-permission : (ms : List Message) → tally is_out ms + tally is_back ms ≡ tally carries_permission ms
unfolding tally
split-permission [] = refl
split-permission (m ∷ ms) =
    let ih = split-permission ms in
    by_bool (is_out m)
    (λ e. rw (e, out-not-back m e) (omega arith))
    (λ e. rw e (by_bool (is_back m) (λ f. rw f (omega arith)) (λ f. rw f ih)))

module _ (p : Setting) (law : SettingLaw p) where
  module _ (s : Situation) where
    -- a reply, or a release without heir, of that number is the permission
    reply-own : (k n : ℕ) (m : Message) → Fits p s m → is_reply k n m ≡ true → (k ≡ s.owner) × (n ≡ s.grant + s.ahead) × (s.stage ≡ OUT)
    reply-own k n m a e =
        let w = and_split (eqb (kind m) REPLY) (eqb k (site_of m) && eqb n (number_of m)) e in
        let v = and_split (eqb k (site_of m)) (eqb n (number_of m)) w.1 in
        let c = eqb-true (kind m) REPLY w.0 in
        let f = fits-permission p s m a (rw c) in
        (eqb-true k (site_of m) v.0 ∙ f.0, eqb-true n (number_of m) v.1 ∙ f.1, rw c at f.2)

    -- the same of a release
    release-own : (k n : ℕ) (m : Message) → Fits p s m → is_release k n m ≡ true → (k ≡ s.owner) × (s.stage ≡ RELEASED)
    release-own k n m a e =
        let w = and_split (eqb (kind m) RELEASE) (eqb k (site_of m) && eqb n (number_of m)) e in
        let v = and_split (eqb k (site_of m)) (eqb n (number_of m)) w.1 in
        let c = eqb-true (kind m) RELEASE w.0 in
        let f = fits-permission p s m a (rw c) in
        (eqb-true k (site_of m) v.0 ∙ f.0, rw c at f.2)

    -- no release of k without heir
    no-release : (k n : ℕ) → (k ≡ s.owner → s.stage ≢ RELEASED) → (m : Message) → Fits p s m → is_release k n m ≡ false
    no-release k n h m a = by_bool (is_release k n m) (λ e. let w = release-own k n m a e in absurd (h w.0 w.1)) (λ e. e)

    -- no release of k with the grant number
    no-any-release : (k : ℕ) → s.stage ≢ RELEASED → s.ahead ≡ 0 → (m : Message) → Fits p s m → is_any_release k s.grant m ≡ false
    no-any-release k s4 d0 m a = by_bool (is_any_release k s.grant m)
        (λ e. let w = and_split (eqb (kind m) RELEASE || eqb (kind m) HANDOVER) (eqb k (site_of m) && eqb s.grant (number_of m)) e in
        let v = and_split (eqb k (site_of m)) (eqb s.grant (number_of m)) w.1 in
        by_bool (eqb (kind m) RELEASE)
        (λ f. absurd (s4 (release-own k s.grant m a (rw (f, v.0) v.1)).1))
        (λ f. let y = fits-hand_over p s m a (rw f at w.0) (sym (eqb-true s.grant (number_of m) v.1)) in absurd (omega arith)))
        (λ e. e)

  module _ (t : Local) (o : Ghost) (ms : List Message) (s : InvariantWith p (view t ms) o) where
    c : Core p t o ms
    c = s.core

    v : View
    v = view t ms

    -- the arbiter is one hand-over behind
    ahead-one : o.ahead ≢ 0 → o.ahead ≡ 1
    ahead-one z = let y = c.arbiter.ahead_by_one in omega arith

    -- a hand-over that the arbiter has not heard of is under way
    hand_over-under_way : o.ahead ≢ 0 → HandOverTo p v o.owner
    unfolding v
    hand_over-under_way z = (λ y. let w = (c.arbiter.handed_over z).1 in omega arith, c.under_way.hand_overs z)

    -- no holder while the permission is free, and only then
    holder-zero : t.holder ≡ 0 → o.stage ≡ FREE
    holder-zero h = by_bool (eqb o.stage FREE) (λ e. eqb-true o.stage FREE e) (λ e. let y = law.site_in_range t.holder (c.arbiter.when_taken (eqb-false o.stage FREE e)).1 in absurd (omega arith))

    zero-holder : o.stage ≡ FREE → t.holder ≡ 0
    zero-holder z = let f = c.arbiter.when_free z in sym (c.arbiter.owner_is_holder f.1) ∙ f.0

    -- at stage OUT the reply is under way, at stage RELEASED the release
    reply-under_way : o.stage ≡ OUT → 0 < tally (is_reply o.owner (t.grant + o.ahead)) ms
    reply-under_way z =
        let tk : tally carries_permission ms ≡ 1 = rw z at c.under_way.permissions in
        let le = tally-mono _ carries_permission (is_reply o.owner (t.grant + o.ahead)) ms c.under_way.fit (λ m a e. permission-replied p (situation t o.owner o.ahead o.stage) m a z e) in omega arith

    release-under_way : o.stage ≡ RELEASED → 0 < tally (is_release o.owner (t.grant + o.ahead)) ms
    release-under_way z =
        let tk : tally carries_permission ms ≡ 1 = rw z at c.under_way.permissions in
        let le = tally-mono _ carries_permission (is_release o.owner (t.grant + o.ahead)) ms c.under_way.fit (λ m a e. permission-released p (situation t o.owner o.ahead o.stage) m a z e) in omega arith

    -- the new owner has the token
    has-token : o.ahead ≡ 1 → (0 < tally (is_reply o.owner (suc t.grant)) ms) ⊎ ((t.held o.owner ≡ suc t.grant) ⊎ (0 < tally (is_release o.owner (suc t.grant)) ms))
    has-token d1 =
        let gd : t.grant + o.ahead ≡ suc t.grant = omega arith in
        let le = c.arbiter.stage_range in
        by_bool (eqb o.stage FREE) (λ e. let y = (c.arbiter.when_free (eqb-true o.stage FREE e)).1 in absurd (omega arith))
        (λ e0. by_bool (eqb o.stage OUT) (λ e. inl (rw gd at (reply-under_way (eqb-true o.stage OUT e))))
        (λ e1. by_bool (eqb o.stage HELD) (λ e. inr (inl (c.column.number (eqb-true o.stage HELD e) ∙ gd)))
        (λ e2. by_bool (eqb o.stage YIELDED) (λ e. let y = (c.asks.yielded_failed (eqb-true o.stage YIELDED e)).2 in absurd (omega arith))
        (λ e3. let a0 = eqb-false o.stage FREE e0 in let a1 = eqb-false o.stage OUT e1 in let a2 = eqb-false o.stage HELD e2 in let a3 = eqb-false o.stage YIELDED e3 in
        inr (inr (rw gd at (release-under_way (omega arith))))))))

    -- R1, T1, T3 to T6, T8: each message
    fits : (m : Message) → Fits p (situation t o.owner o.ahead o.stage) m → FitsTables p v m
    unfolding Fits FitsTables v
    fits (request k n) a = (a.0, a.1, let w = c.asks.waiting_numbered k a.0 in let y = same_number a.1 in omega arith, a.2)
    fits (reply f k n) a =
        let s0 : o.stage ≢ FREE = (λ z. let y = a.2 in omega arith) in
        let busy = c.arbiter.when_taken s0 in
        let kk = c.asks.out_known a.2 in
        let w = c.asks.known_waits o.owner kk in
        let en = c.asks.owner_entry kk in
        let nn = a.1 in
        rw a.0 (
          by_bool (eqb o.ahead 0)
              (λ e. let d0 = eqb-true o.ahead 0 e in inl (c.arbiter.owner_is_holder d0, omega arith, en.0 d0))
              (λ e. let d0 = eqb-false o.ahead 0 e in let d1 = ahead-one d0 in inr (omega arith, en.1 d0, hand_over-under_way d0)),
          w.0,
          omega arith,
          w.1,
          a.3,
          a.4,
          by_bool (eqb (t.held o.owner) 0) (λ e. eqb-true (t.held o.owner) 0 e) (λ e. let y = (c.column.holds o.owner (eqb-false (t.held o.owner) 0 e)).1 in let z = a.2 in absurd (omega arith)),
        )
    fits (release k n) a =
        let s0 : o.stage ≢ FREE = (λ z. let y = a.2 in omega arith) in
        let busy = c.arbiter.when_taken s0 in
        let nn = a.1 in
        rw a.0 (
          by_bool (eqb o.ahead 0)
              (λ e. let d0 = eqb-true o.ahead 0 e in inl (c.arbiter.owner_is_holder d0, omega arith))
              (λ e. let d0 = eqb-false o.ahead 0 e in let d1 = ahead-one d0 in let q1 = (c.arbiter.handed_over d0).0 in inr (omega arith, (λ z. omega arith), hand_over-under_way d0)),
          omega arith,
          busy.0,
        )
    fits (hand_over k x n) a = (
      a.0,
      λ e h. let w = a.1 e in let d0 : o.ahead ≢ 0 = (λ z. let y = w.2 in omega arith) in let q1 = (c.arbiter.handed_over d0).0 in
          rw w.1 (w.0, (λ z. omega arith), has-token w.2),
      a.2,
      a.3,
      a.4,
    )
    fits (inquire k n) a = a
    fits (fail k n) a = a
    fits (yield k n) a =
        let y = c.asks.yielded_failed a.2 in
        let busy = c.arbiter.when_taken (λ z. let y = a.2 in omega arith) in
        let w = c.asks.known_waits o.owner y.0 in
        let nn = a.1 in let d0 = y.2 in
        rw a.0 (c.arbiter.owner_is_holder y.2, omega arith, w.0, (c.asks.owner_entry y.0).0 y.2, y.1, omega arith, w.1)
    fits (transfer k x n) a = a

    -- A3: each stage is one place
    one_place : cond (eqb t.holder 0) 1 0 + tally is_out ms + count (λ k. not (eqb (t.held k) 0)) p.size + tally is_back ms ≡ 1
    one_place =
        let tk = c.under_way.permissions in
        let sp = split-permission ms in
        let not-held : (k : ℕ) → (k ≡ o.owner → o.stage ≢ HELD) → not (eqb (t.held k) 0) ≡ false = λ k f. by_bool (eqb (t.held k) 0) (λ e. rw e) (λ e. let y = c.column.holds k (eqb-false (t.held k) 0 e) in absurd (f y.0 y.1)) in
        by_bool (eqb o.stage FREE)
        (λ e. let z = eqb-true o.stage FREE e in let u = rw z at tk in
        let h = count_none (λ k. not (eqb (t.held k) 0)) p.size (λ k. not-held k (λ x y. omega arith)) in
        rw (eq-eqb t.holder 0 (zero-holder z)) (omega arith))
        (λ e0. let busy = c.arbiter.when_taken (eqb-false o.stage FREE e0) in
        let hr = law.site_in_range t.holder busy.1 in
        rw (ne_eqb t.holder 0 (λ z. omega arith))
        (by_bool (eqb o.stage HELD)
        (λ e. let z = eqb-true o.stage HELD e in let u = rw z at tk in
        let own = law.site_in_range o.owner busy.0 in
        let nu = c.column.number z in
        let h = count-one (λ k. not (eqb (t.held k) 0)) o.owner p.size own.0 (rw (ne_eqb (t.held o.owner) 0 (λ y. let g1 = busy.3 in omega arith))) (λ k ne. not-held k (λ x. absurd (ne x))) own.1 in
        omega arith)
        (λ e. let h = count_none (λ k. not (eqb (t.held k) 0)) p.size (λ k. not-held k (λ x. eqb-false o.stage HELD e)) in
        let u = rw (e0, e) at tk in omega arith)))

    -- who does not wait is not known
    unknown : (k : ℕ) → t.mode k ≢ WAITING → o.known k ≡ 0
    unknown k h = by_bool (eqb (o.known k) 0) (λ e. eqb-true (o.known k) 0 e) (λ e. absurd (h (c.asks.known_waits k (eqb-false (o.known k) 0 e)).0))

    -- S1
    at_rest : (k : ℕ) → t.mode k ≡ REST → (t.held k ≡ 0) × (t.heir k ≡ 0) × (t.inquired k ≡ 0)
    at_rest k m =
        let kz = unknown k (λ z. omega arith) in
        let no_own : k ≡ o.owner → o.stage ≡ HELD → ⊥ = (λ e z. let w = c.asks.held_inside z (rw e at kz) in let u : t.mode k ≡ INSIDE = rw e w in omega arith) in (
          by_bool (eqb (t.held k) 0) (λ e. eqb-true (t.held k) 0 e) (λ e. let y = c.column.holds k (eqb-false (t.held k) 0 e) in absurd (no_own y.0 y.1)),
          by_bool (eqb (t.heir k) 0) (λ e. eqb-true (t.heir k) 0 e) (λ e. let y = c.column.heirs k (eqb-false (t.heir k) 0 e) in absurd (no_own y.0 y.1)),
          by_bool (eqb (t.inquired k) 0) (λ e. eqb-true (t.inquired k) 0 e) (λ e. let y = (c.column.remembered k (eqb-false (t.inquired k) 0 e)).0 in absurd (omega arith)),
        )

    -- S2
    inside-holds : (k : ℕ) → t.mode k ≡ INSIDE → p.member k ≡ true → t.held k ≢ 0
    inside-holds k m e z =
        let y = c.asks.inside_holds k m e in
        let busy = (c.arbiter.when_taken (λ z. let w = y.1 in omega arith)).3 in
        let nu : t.held k ≡ t.grant + o.ahead = rw y.0 (c.column.number y.1) in omega arith

    -- T2
    holding : (k : ℕ) → t.held k ≢ 0 → (((k ≡ t.holder) × (t.held k ≡ t.grant) × (t.mode k ≡ WAITING → t.holder_ask ≡ t.ask k))
        ⊎ ((t.held k ≡ suc t.grant) × ((t.queued k).number ≢ 0) × (t.mode k ≡ WAITING → t.queued k ≡ t.ask k) × HandOverTo p v k)) × (p.member k ≡ true)
    holding k h =
        let y = c.column.holds k h in
        let busy = c.arbiter.when_taken (λ z. let w = y.1 in omega arith) in
        let nu = c.column.number y.1 in
        let kk : t.mode o.owner ≡ WAITING → o.known o.owner ≢ 0 = (λ m z. let w = c.asks.held_inside y.1 z in omega arith) in
        rw y.0 (
          by_bool (eqb o.ahead 0)
              (λ e. let d0 = eqb-true o.ahead 0 e in inl (c.arbiter.owner_is_holder d0, omega arith, λ m. (c.asks.owner_entry (kk m)).0 d0))
              (λ e. let d0 = eqb-false o.ahead 0 e in let d1 = ahead-one d0 in let q1 = (c.arbiter.handed_over d0).0 in inr (omega arith, (λ z. omega arith), (λ m. (c.asks.owner_entry (kk m)).1 d0), hand_over-under_way d0)),
          busy.0,
        )

    -- T7
    inherits : (k : ℕ) → t.heir k ≢ 0 → (k ≡ t.holder) × (t.held k ≡ t.grant) × ((t.queued (t.heir k)).number ≢ 0) × (p.member k ≡ true) × (p.member (t.heir k) ≡ true)
    inherits k h =
        let y = c.column.heirs k h in
        let nu : t.held k ≡ t.grant + o.ahead = rw y.0 (c.column.number y.1) in
        let d0 = y.2 in
        (y.0 ∙ c.arbiter.owner_is_holder y.2, omega arith, y.3, rw y.0 (c.arbiter.when_taken (λ z. let w = y.1 in omega arith)).0, queued-member p law t o ms c (t.heir k) y.3)

    -- R1
    one-request : (k : ℕ) → tally (is_request_of k) ms ≤ 1
    one-request k = by_bool (eqb (t.mode k) WAITING)
        (λ e. by_bool (p.member k)
        (λ m. let w = c.under_way.requests k (eqb-true (t.mode k) WAITING e) m in omega arith)
        (λ m. let w = no-request p (situation t o.owner o.ahead o.stage) k ms (inr m) c.under_way.fit in omega arith))
        (λ e. let w = no-request p (situation t o.owner o.ahead o.stage) k ms (inl (eqb-false (t.mode k) WAITING e)) c.under_way.fit in omega arith)

    -- a waiting member without request under way is known
    asked-known : (k : ℕ) → t.mode k ≡ WAITING → p.member k ≡ true → tally (is_request_of k) ms ≡ 0 → o.known k ≢ 0
    asked-known k m e z y = let w = c.under_way.requests k m e in omega arith

    -- a known site other than the owner is not the holder
    holder-not : (k : ℕ) → o.known k ≢ 0 → k ≢ o.owner → t.holder ≢ k
    holder-not k kk ne z = let y = same_number (c.asks.queued_if_known k ne kk) in let w = c.asks.waiting_numbered k (c.asks.known_waits k kk).0 in let u : (t.queued k).number ≡ 0 = rw z at (same_number c.arbiter.holder_not_queued) in omega arith

    -- R3
    asked-at : (k : ℕ) → t.mode k ≡ WAITING → p.member k ≡ true → tally (is_request_of k) ms ≡ 0
        → ((t.holder ≡ k) × (t.holder_ask ≡ t.ask k) × ((t.queued k).number ≡ 0) × (tally (is_any_release k t.grant) ms ≡ 0)) ⊎ ((t.holder ≢ k) × (t.queued k ≡ t.ask k) × (tally (is_release k (suc t.grant)) ms ≡ 0))
    asked-at k m e z =
        let kk = asked-known k m e z in
        by_bool (eqb k o.owner)
        (λ ko. let k1 = eqb-true k o.owner ko in
        let kw : o.known o.owner ≢ 0 = rw k1 at kk in
        let s4 : o.stage ≢ RELEASED = (λ y. kw (c.asks.released_left y).0) in
        by_bool (eqb o.ahead 0)
        (λ d. let d0 = eqb-true o.ahead 0 d in let ho = c.arbiter.owner_is_holder d0 in
        inl (
          rw k1 (sym ho),
          rw k1 ((c.asks.owner_entry kw).0 d0),
          same_number (ap t.queued (k1 ∙ ho) ∙ c.arbiter.holder_not_queued),
          all_none _ (is_any_release k t.grant) ms c.under_way.fit (no-any-release (situation t o.owner o.ahead o.stage) k s4 d0),
        ))
        (λ d. let d0 = eqb-false o.ahead 0 d in
        inr (
          (λ y. (c.arbiter.handed_over d0).2 (sym (y ∙ k1))),
          rw k1 ((c.asks.owner_entry kw).1 d0),
          all_none _ (is_release k (suc t.grant)) ms c.under_way.fit (no-release (situation t o.owner o.ahead o.stage) k (suc t.grant) (λ y. s4)),
        )))
        (λ ko. let ne = eqb-false k o.owner ko in
        inr (
          holder-not k kk ne,
          c.asks.queued_if_known k ne kk,
          all_none _ (is_release k (suc t.grant)) ms c.under_way.fit (no-release (situation t o.owner o.ahead o.stage) k (suc t.grant) (λ y. absurd (ne y))),
        ))

    -- R4
    not-asked : (k : ℕ) → p.member k ≡ true → o.known k ≡ 0 → t.mode k ≢ INSIDE → ((t.queued k).number ≢ 0 → 0 < tally (is_release k (suc t.grant)) ms) × (t.holder ≡ k → 0 < tally (is_any_release k t.grant) ms)
    not-asked k e kz m =
        by_bool (eqb k o.owner)
        (λ ko. let k1 = eqb-true k o.owner ko in
        let kw : o.known o.owner ≡ 0 = rw k1 at kz in
        let k0 = (law.site_in_range k e).0 in
        let le = c.arbiter.stage_range in
        let n0 : o.stage ≢ FREE = (λ y. let w = (c.arbiter.when_free y).0 in omega arith) in
        let n1 : o.stage ≢ OUT = (λ y. c.asks.out_known y kw) in
        let n2 : o.stage ≢ HELD = (λ y. m (rw k1 (c.asks.held_inside y kw))) in
        let n3 : o.stage ≢ YIELDED = (λ y. (c.asks.yielded_failed y).0 kw) in
        let s4 : o.stage ≡ RELEASED = omega arith in
        let re = release-under_way s4 in
        rw k1 (by_bool (eqb o.ahead 0)
        (λ d. let d0 = eqb-true o.ahead 0 d in let gd : t.grant + o.ahead ≡ t.grant = omega arith in (
          (λ y. absurd (y (same_number (ap t.queued (c.arbiter.owner_is_holder d0) ∙ c.arbiter.holder_not_queued)))),
          (λ y. let r1 = rw gd at re in let le = tally-mono _ (is_release o.owner t.grant) (is_any_release o.owner t.grant) ms c.under_way.fit (λ m a e. release-any o.owner t.grant m e) in omega arith),
        ))
        (λ d. let d0 = eqb-false o.ahead 0 d in let d1 = ahead-one d0 in let gd : t.grant + o.ahead ≡ suc t.grant = omega arith in
        ((λ y. rw gd at re), (λ y. absurd ((c.arbiter.handed_over d0).2 (sym y)))))))
        (λ ko. let ne = eqb-false k o.owner ko in (
          (λ y. absurd (y (same_number (c.asks.empty_if_unknown k ne kz)))),
          (λ y. let d0 : o.ahead ≢ 0 = (λ z. ne (sym y ∙ sym (c.arbiter.owner_is_holder z))) in
              let h = c.under_way.hand_overs d0 in
              let le = tally-mono _ (is_hand_over t.holder o.owner t.grant) (is_any_release t.holder t.grant) ms c.under_way.fit (λ m a e. hand_over-any t.holder o.owner t.grant m e) in
              rw (← y) (omega arith)),
        ))

    -- L1
    owing : (k : ℕ) → t.mode k ≡ WAITING → p.member k ≡ true → tally (is_request_of k) ms ≡ 0 → t.holder ≢ k → tally (is_reply_to k) ms ≡ 0 → t.held k ≡ 0
        → t.failed k ≡ false → tally (is_fail_for k (t.ask k)) ms ≡ 0 → (head_of p t.queued ≡ k) × (before_holder p t k ≡ true)
    owing k m e z nh nr h0 f nf =
        let kk = asked-known k m e z in
        let not-owner : k ≢ o.owner = (λ k1.
        let kw : o.known o.owner ≢ 0 = rw k1 at kk in
        let k0 = (law.site_in_range k e).0 in
        let le = c.arbiter.stage_range in
        let ho : t.held o.owner ≡ 0 = rw k1 at h0 in
        let n0 : o.stage ≢ FREE = (λ y. let w = (c.arbiter.when_free y).0 in omega arith) in
        let g1 = (c.arbiter.when_taken n0).3 in
        let n1 : o.stage ≢ OUT = (λ y. let w = reply-under_way y in let nr1 : tally (is_reply_to o.owner) ms ≡ 0 = rw k1 at nr in
        let le = tally-mono _ (is_reply o.owner (t.grant + o.ahead)) (is_reply_to o.owner) ms c.under_way.fit (λ m a e. reply-any o.owner (t.grant + o.ahead) m e) in omega arith) in
        let n2 : o.stage ≢ HELD = (λ y. let w = c.column.number y in omega arith) in
        let n3 : o.stage ≢ YIELDED = (λ y. nh (sym (k1 ∙ c.arbiter.owner_is_holder (c.asks.yielded_failed y).2))) in
        let s4 : o.stage ≡ RELEASED = omega arith in
        kw (c.asks.released_left s4).0) in
        s.owed.fail_owed k kk not-owner f nf

    -- L2
    inquiring : t.holder ≢ 0 → t.mode t.holder ≡ WAITING → (0 < tally (is_reply t.holder t.grant) ms) ⊎ (t.held t.holder ≡ t.grant)
        → head_of p t.queued ≢ 0 → before_holder p t (head_of p t.queued) ≡ true → t.inquired t.holder ≢ t.grant → 0 < tally (is_inquire t.holder t.grant) ms
    inquiring h m d =
        let n0 : o.stage ≢ FREE = (λ z. h (zero-holder z)) in
        let g1 = (c.arbiter.when_taken n0).3 in
        let w : (t.holder ≡ o.owner) × (o.ahead ≡ 0) × (o.stage ≤ 2) × (o.known o.owner ≢ 0) = elim d [
          | inl r ↦ let (mm, e, a) = all-some _ (is_reply t.holder t.grant) ms c.under_way.fit r in
              let y = reply-own (situation t o.owner o.ahead o.stage) t.holder t.grant mm a e in
              let y1 = y.1 in let y2 = y.2 in (y.0, omega arith, omega arith, c.asks.out_known y.2)
          | inr r ↦ let y = c.column.holds t.holder (λ z. omega arith) in
              let nu : t.held t.holder ≡ t.grant + o.ahead = rw y.0 (c.column.number y.1) in let y1 = y.1 in
              (y.0, omega arith, omega arith, λ z. let u = c.asks.held_inside y.1 z in let mo : t.mode o.owner ≡ WAITING = rw y.0 at m in omega arith)
        ] in
        rw (sym w.0) at (s.owed.inquire_owed w.1 n0 w.2 w.3)

  -- the clauses follow
  pub clauses-hold : (v : View) → Invariant p v → Clauses p v
  unfolding v
  clauses-hold v (o, s) =
      let t = v.tables in
      let ms = v.messages in
      let c = s.core in
      record {
        S1 = at_rest t o ms s;
        S2 = inside-holds t o ms s;
        S4 = λ k h i. s.inquiries_fit k i h;
        A1 = λ h. s.free_queue_empty (holder-zero t o ms s h);
        A2 = c.arbiter.holder_not_queued;
        A3 = one_place t o ms s;
        T = all_map _ _ ms (fits t o ms s) c.under_way.fit;
        T2 = holding t o ms s;
        T7 = inherits t o ms s;
        T8 = λ k h. let y = c.column.remembered k h in (y.2, y.1, y.0);
        R1 = one-request t o ms s;
        R2 = c.under_way.ordered;
        R3 = asked-at t o ms s;
        R4 = λ k e d. not-asked t o ms s k e
            (elim d [ inl m ↦ unknown t o ms s k (λ z. omega arith) | inr m ↦ let w = c.under_way.requests k m.0 e in let y = m.1 in omega arith ])
            (elim d [ inl m ↦ (λ z. omega arith) | inr m ↦ (λ z. let y = m.0 in omega arith) ]);
        L1 = owing t o ms s;
        L2 = inquiring t o ms s;
        L3 = s.owed.ascending;
        holder_range = ((λ h. let y = c.arbiter.when_taken (λ z. h (zero-holder t o ms s z)) in (y.2, y.3, y.1)), (λ h. (c.arbiter.when_free (holder-zero t o ms s h)).2));
        queued_member = queued-member p law t o ms c;
        waiting_numbered = c.asks.waiting_numbered;
        not_waiting_clear = c.asks.not_waiting_clear;
      }
