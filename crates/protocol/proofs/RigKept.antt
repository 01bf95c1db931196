-- Every event keeps the rig's invariant. An ask, a leave, a fail and an entry change what several arbiters see; every other message
-- changes what its own arbiter sees, and the others' part and messages stay as they are.
use Prim.Native.Nat.{ℕ, ◌≤◌, max}
use mathlib.Core.Path.{◌≡◌, refl, sym, ◌∙◌}
use mathlib.Core.Logic.{◌≢◌}
use mathlib.Core.Bool.{Bool, true, false, not, ◌&&◌, cond}
use mathlib.Core.List.{List, [], ◌∷◌, append_assoc, append-nil}
use mathlib.Core.Option.{Option, none, some}
use native.Mathlib.Omega.{arith}
use lib.Dec.{eqb, leb}
use borrow.Author.Tests.{eqb-true, eqb-false, eq-eqb, ne_eqb, leb-true}
use Rattle.basics.specs.Helpers.{update, first, without_first}
use Rattle.protocol.specs.Message.{Message, request, reply, release, hand_over, inquire, fail, yield, transfer, between}
use Rattle.protocol.specs.Setting.{Setting}
use Rattle.protocol.specs.Local.{REST, WAITING, INSIDE, Local, view}
use Rattle.protocol.specs.Site.{yielded, entered, takes, on_reply, must_yield, fail_counts, on_fail, handled}
use Rattle.protocol.specs.System.{System, Lawful, setting_of}
use Rattle.protocol.specs.Rig.{Row, Sent, Rig, messages_of, sent, sent_by, in_order, channel, Event, ask, leave, deliver, lose, local_at, rows_taken, without_inquired, made, requests, asked, hand_ons, left, all_held, effect, with_effect, fail_seen, delivered, taken_off, step, run, fresh}
use Rattle.basics.proofs.Basics.{by_bool, clash, and_split, and-true, all-at, all-false}
use Rattle.protocol.proofs.Invariant.{Invariant}
use Rattle.protocol.proofs.Seen.{ask_seen, leave_seen, view_of, law-of}
use Rattle.protocol.proofs.Kept.Fail.{fail_seen-kept}
use Rattle.protocol.proofs.Kept.Entered.{entered-kept}
use Rattle.protocol.proofs.Kept.Ask.{ask_seen-kept}
use Rattle.protocol.proofs.Kept.Leave.{leave_seen-kept}
use Rattle.protocol.proofs.EveryMessage.{fresh_view, first-invariant, handled-kept, fresh-invariant}
use Rattle.protocol.proofs.Clauses.{FitsTables}
use Rattle.protocol.proofs.Lost.{messages-lost, lost-kept}
use Rattle.protocol.proofs.OneRow.{Simple, on_fail-row, on_reply-row, reply-held, handled-row}
use Rattle.protocol.proofs.RigMessages.{messages-append, messages-sent_by, messages-other, first-messages, without-messages, without_other, messages-all}
use Rattle.protocol.proofs.RigInvariant.{RigInvariant, first_fits, arbiter-range, not-member}

module _ (y : System) (lw : Lawful y) where
  -- an ask: every arbiter sees it
  asked-kept : (r : Rig) (s : ℕ) → 1 ≤ s → s ≤ y.size → r.sites.mode s ≡ REST → RigInvariant y r → RigInvariant y (asked y r s)
  unfolding asked ask_seen update
  asked-kept r s a b m w = record {
    arbiters = λ j.
        let f : ℕ → List Message = requests y s (made r s) in
        let kept = ask_seen-kept (setting_of y j) (local_at r j) s (made r s) (messages_of j r.under_way) m (omega arith) (w.arbiters j) in
        rw (messages-append j r.under_way (in_order f y.size), messages-all j y.size f (λ h. rw (not-member y lw s j h)))
        (by_bool (y.sets s j) (λ e. rw e (rw e at kept)) (λ e. rw (e, append-nil) (rw e at kept)));
    in_range = λ k. by_bool (eqb k s) (λ e. rw e (λ h. rw (eqb-true k s e) (a, b))) (λ e. rw e (w.in_range k));
    mode_range = λ k. by_bool (eqb k s) (λ e. rw e (omega arith)) (λ e. rw e (w.mode_range k));
    clock_in_range = λ k. by_bool (eqb k s) (λ e. rw e (λ h. rw (eqb-true k s e) (a, b))) (λ e. rw e (w.clock_in_range k));
    grant_in_range = w.grant_in_range;
    lacks_one = λ k. by_bool (eqb k s)
        (λ e. rw e (λ h. let (j, u) = lw.non_empty s a b in (j, rw (eqb-true k s e) u, refl)))
        (λ e. rw e (λ h. w.lacks_one k h));
  }

  -- a leave: every arbiter sees it
  left-kept : (r : Rig) (s : ℕ) → r.sites.mode s ≡ INSIDE → RigInvariant y r → RigInvariant y (left y r s)
  unfolding left leave_seen update
  left-kept r s m w = record {
    arbiters = λ j.
        let f : ℕ → List Message = hand_ons y r s in
        let kept = leave_seen-kept (setting_of y j) (law-of y lw j) (local_at r j) s (messages_of j r.under_way) m (w.arbiters j) in
        rw (messages-append j r.under_way (in_order f y.size), messages-all j y.size f (λ h. rw (not-member y lw s j h)))
        (by_bool (y.sets s j && not (eqb ((r.rows j).held s) 0))
        (λ e. by_bool (eqb ((r.rows j).heir s) 0)
        (λ g. rw (e, g) (rw (e, g) at kept))
        (λ g. rw (e, g) (rw (e, g, append_assoc) at kept)))
        (λ e. rw (e, append-nil) (rw e at kept)));
    in_range = λ k. by_bool (eqb k s) (λ e. rw e (λ h. absurd (h refl))) (λ e. rw e (w.in_range k));
    mode_range = λ k. by_bool (eqb k s) (λ e. rw e (omega arith)) (λ e. rw e (w.mode_range k));
    clock_in_range = w.clock_in_range;
    grant_in_range = w.grant_in_range;
    lacks_one = λ k. by_bool (eqb k s) (λ e. rw e (λ h. absurd (omega arith))) (λ e. rw e (λ h. w.lacks_one k h));
  }

  -- the message is j's; what the view of j becomes
  own-arbiter-kept : (r : Rig) (a b : ℕ) (x : Sent) (e : Bool) → first (channel a b) r.under_way ≡ some x → RigInvariant y r
      → Invariant (setting_of y x.arbiter) (handled (setting_of y x.arbiter) (view (local_at r x.arbiter) (messages_of x.arbiter (without_first (channel a b) r.under_way))) e x.message)
  own-arbiter-kept r a b x e f w =
      rw (without-messages a b r.under_way x f)
      (handled-kept (setting_of y x.arbiter) (law-of y lw x.arbiter) (local_at r x.arbiter) (without_first (between x.arbiter a b) (messages_of x.arbiter r.under_way)) e x.message
      (first-invariant (setting_of y x.arbiter) (law-of y lw x.arbiter) (local_at r x.arbiter) (messages_of x.arbiter r.under_way) a b x.message (first-messages a b r.under_way x f) (w.arbiters x.arbiter)))

  -- a message that changes one row
  with_effect-kept : (r : Rig) (a b : ℕ) (x : Sent) (clock : ℕ → ℕ) → ((k : ℕ) → clock k ≢ 0 → (1 ≤ k) × (k ≤ y.size)) → Simple x.message → first (channel a b) r.under_way ≡ some x → RigInvariant y r → RigInvariant y (with_effect y r (without_first (channel a b) r.under_way) clock x.arbiter x.message)
  unfolding update
  with_effect-kept r a b x clock cl u f w =
      let j = x.arbiter in
      let t = local_at r j in
      let rest = without_first (channel a b) r.under_way in
      let new = (effect y r j false x.message).messages in
      let tidy = handled-row (setting_of y j) t x.message (messages_of j rest) u in
      record {
        arbiters = λ i. rw (messages-append i rest (sent_by j new)) (by_bool (eqb i j)
            (λ e. let ij = eqb-true i j e in rw e (rw (ij, messages-sent_by j new) (rw tidy.0 at (own-arbiter-kept r a b x false f w))))
            (λ e. let ne = eqb-false i j e in rw (e, messages-other i j new ne, append-nil, without_other a b i r.under_way x f ne) (w.arbiters i)));
        in_range = w.in_range;
        mode_range = w.mode_range;
        clock_in_range = cl;
        grant_in_range = λ i. by_bool (eqb i j) (λ e. rw e (λ h. rw (eqb-true i j e) (arbiter-range y lw r a b x f w))) (λ e. rw e (w.grant_in_range i));
        lacks_one = λ k m. let (j0, s, h) = w.lacks_one k m in (
          j0,
          s,
          by_bool (eqb j0 j)
              (λ e. rw e (tidy.1 k (rw (← (eqb-true j0 j e)) h)))
              (λ e. rw e h),
        );
      }

  -- an arbiter outside the set sends nothing on a fail, and no arbiter changes its grant number
  on_fail-silent : (p : Setting) (t : Local) (b n : ℕ) → p.member b ≡ false → (on_fail p (view t []) b n).messages ≡ []
  unfolding on_fail
  on_fail-silent p t b n h = by_bool (fail_counts t.mode t.ask b n) (λ e. rw (e, h)) (λ e. rw e)

  on_fail-grant : (p : Setting) (t : Local) (b n : ℕ) → (on_fail p (view t []) b n).tables.grant ≡ t.grant
  unfolding on_fail yielded
  on_fail-grant p t b n = by_bool (fail_counts t.mode t.ask b n) (λ e. by_bool (must_yield p t b) (λ f. rw (e, f)) (λ f. rw (e, f))) (λ e. rw e)

  -- a fail, at its own arbiter
  fail-own-arbiter : (r : Rig) (a b j k n : ℕ) → first (channel a b) r.under_way ≡ some (sent j (fail k n)) → RigInvariant y r
      → Invariant (setting_of y j) (on_fail (setting_of y j) (view (local_at r j) (messages_of j (without_first (channel a b) r.under_way))) k n)
  unfolding handled
  fail-own-arbiter r a b j k n f w = own-arbiter-kept r a b (sent j (fail k n)) false f w

  -- a fail: every arbiter sees it
  fail-kept : (r : Rig) (a b j k n : ℕ) → first (channel a b) r.under_way ≡ some (sent j (fail k n)) → RigInvariant y r → RigInvariant y (delivered y r (without_first (channel a b) r.under_way) j (fail k n))
  unfolding delivered
  fail-kept r a b j k n f w =
      let x : Sent = sent j (fail k n) in
      let rest = without_first (channel a b) r.under_way in
      let F : ℕ → List Message = λ i. (fail_seen y r k n i).messages in
      record {
        arbiters = λ i.
            let t = local_at r i in
            rw (messages-append i rest (in_order F y.size), messages-all i y.size F (λ h. on_fail-silent (setting_of y i) t k n (not-member y lw k i h)))
            (rw (on_fail-row (setting_of y i) t k n (messages_of i rest)).0 at (fail-seen r a b j k n f w i));
        in_range = w.in_range;
        mode_range = w.mode_range;
        clock_in_range = w.clock_in_range;
        grant_in_range = λ i h. w.grant_in_range i (λ z. h (on_fail-grant (setting_of y i) (local_at r i) k n ∙ z));
        lacks_one = λ i m. let (j0, s, h) = w.lacks_one i m in (j0, s, (on_fail-row (setting_of y j0) (local_at r j0) k n []).1 i h);
      }
    where
      fail-seen : (r : Rig) (a b j k n : ℕ) → first (channel a b) r.under_way ≡ some (sent j (fail k n)) → RigInvariant y r → (i : ℕ)
          → Invariant (setting_of y i) (on_fail (setting_of y i) (view (local_at r i) (messages_of i (without_first (channel a b) r.under_way))) k n)
      fail-seen r a b j k n f w i = by_bool (eqb i j)
          (λ e. rw (eqb-true i j e) (fail-own-arbiter r a b j k n f w))
          (λ e. rw (without_other a b i r.under_way (sent j (fail k n)) f (eqb-false i j e)) (fail_seen-kept (setting_of y i) (local_at r i) k n (messages_of i r.under_way) (w.arbiters i)))

  -- a reply, at its own arbiter
  reply-own-arbiter : (r : Rig) (a b j u k n : ℕ) (e : Bool) → first (channel a b) r.under_way ≡ some (sent j (reply u k n)) → RigInvariant y r
      → Invariant (setting_of y j) (on_reply (setting_of y j) (view (local_at r j) (messages_of j (without_first (channel a b) r.under_way))) k n e)
  unfolding handled
  reply-own-arbiter r a b j u k n e f w = own-arbiter-kept r a b (sent j (reply u k n)) e f w

  -- all members are held, those of the other arbiters as before
  all_held_lem : (r : Rig) (j b n i : ℕ) → all_held y (rows_taken r j b n) b ≡ true → y.sets b i ≡ true → i ≢ j → (r.rows i).held b ≢ 0
  unfolding all_held update
  all_held_lem r j b n i e s ne z =
      let q = lw.member_in_range b i s in
      let g = all-at _ y.size i e q.0 q.1 in
      clash true refl (sym (rw (s, ne_eqb i j ne, eq-eqb ((r.rows i).held b) 0 z) at g))

  -- a member is not held, and it is not the one just taken
  not-all-held : (r : Rig) (j b n : ℕ) → 1 ≤ n → all_held y (rows_taken r j b n) b ≡ false → (i : ℕ) × (y.sets b i ≡ true) × (i ≢ j) × ((r.rows i).held b ≡ 0)
  unfolding all_held update
  not-all-held r j b n l e =
      let (i, lo, hi, g) = all-false _ y.size e in
      by_bool (y.sets b i)
      (λ s. by_bool (eqb i j)
      (λ ij. clash true refl (rw (s, ij, eq-eqb b b refl, ne_eqb n 0 (λ z. omega arith)) at g))
      (λ ij. by_bool (eqb ((r.rows i).held b) 0)
      (λ h. (i, s, eqb-false i j ij, eqb-true ((r.rows i).held b) 0 h))
      (λ h. clash true refl (rw (s, ij, h) at g))))
      (λ s. clash true refl (rw s at g))

  -- the other arbiters see a site enter
  entered-other : (r : Rig) (j b n i : ℕ) → takes (setting_of y j) (local_at r j) b ≡ true → all_held y (rows_taken r j b n) b ≡ true → i ≢ j → RigInvariant y r → Invariant (setting_of y i) (entered (view_of r i) b)
  entered-other r j b n i tk fu ne w =
      let m = eqb-true (r.sites.mode b) WAITING (and_split (eqb (r.sites.mode b) WAITING) (y.sets b j && eqb ((r.rows j).held b) 0) tk).0 in
      let g = w.arbiters i in
      let s = g.1 in
      entered-kept (setting_of y i) (local_at r i) g.0 b (messages_of i r.under_way) m (λ e. all_held_lem r j b n i fu e ne) s.core (λ k x. s.inquiries_fit k) s.free_queue_empty s.owed

  -- a reply: where the site enters, every arbiter sees it
  reply-kept : (r : Rig) (a b j u k n : ℕ) → first (channel a b) r.under_way ≡ some (sent j (reply u k n)) → RigInvariant y r → RigInvariant y (delivered y r (without_first (channel a b) r.under_way) j (reply u k n))
  unfolding delivered handled update entered FitsTables
  reply-kept r a b j u k n f w =
      let x : Sent = sent j (reply u k n) in
      let rest = without_first (channel a b) r.under_way in
      let ent = all_held y (rows_taken r j k n) k in
      let t = local_at r j in
      let new = (on_reply (setting_of y j) (view t []) k n ent).messages in
      let tidy = on_reply-row (setting_of y j) t k n ent (messages_of j rest) in
      let fit = first_fits y lw r a b j (reply u k n) f w in
      let tk : takes (setting_of y j) t k ≡ true = and-true (eqb (t.mode k) WAITING) (y.sets k j && eqb (t.held k) 0) (eq-eqb (t.mode k) WAITING fit.1) (and-true (y.sets k j) (eqb (t.held k) 0) fit.3 (eq-eqb (t.held k) 0 fit.6)) in
      let grants : (row : Row) (rows : ℕ → Row) → ((i : ℕ) → (rows i).grant ≡ (r.rows i).grant) → (i : ℕ) → (cond (eqb i j) row (rows i)).grant ≢ 0 → (1 ≤ i) × (i ≤ y.size) =
      λ row rows h i. by_bool (eqb i j) (λ e. rw e (λ z. rw (eqb-true i j e) (arbiter-range y lw r a b x f w))) (λ e. rw e (λ z. w.grant_in_range i (λ v. z (h i ∙ v)))) in
      by_bool (all_held y (rows_taken r j k n) k)
      (λ fu. let go : takes (setting_of y j) t k && all_held y (rows_taken r j k n) k ≡ true = and-true (takes (setting_of y j) t k) (all_held y (rows_taken r j k n) k) tk fu in
      rw go (record {
        arbiters = λ i. rw (messages-append i rest (sent_by j new)) (by_bool (eqb i j)
            (λ e. let ij = eqb-true i j e in rw e (rw (ij, messages-sent_by j new) (rw (tidy, go) at (reply-own-arbiter r a b j u k n ent f w))))
            (λ e. let ne = eqb-false i j e in rw (e, messages-other i j new ne, append-nil, without_other a b i r.under_way x f ne) (entered-other r j k n i tk fu ne w)));
        in_range = λ i. by_bool (eqb i k) (λ e. rw e (λ h. rw (eqb-true i k e) (w.in_range k (λ z. let m = fit.1 in omega arith)))) (λ e. rw e (w.in_range i));
        mode_range = λ i. by_bool (eqb i k) (λ e. rw e (omega arith)) (λ e. rw e (w.mode_range i));
        clock_in_range = w.clock_in_range;
        grant_in_range = grants _ (λ i. without_inquired (r.rows i) k) (λ i. refl);
        lacks_one = λ i. by_bool (eqb i k) (λ e. rw e (λ m. absurd (omega arith)))
            (λ e. rw e (λ m. let (j0, s, h) = w.lacks_one i m in (
              j0,
              s,
              by_bool (eqb j0 j)
                  (λ v. rw v (reply-held (setting_of y j) t k n ent i (eqb-false i k e) (rw (← (eqb-true j0 j v)) h)))
                  (λ v. rw v h),
            )));
      }))
      (λ fu. let go : takes (setting_of y j) t k && all_held y (rows_taken r j k n) k ≡ false = rw tk fu in
      rw go (record {
        arbiters = λ i. rw (messages-append i rest (sent_by j new)) (by_bool (eqb i j)
            (λ e. let ij = eqb-true i j e in rw e (rw (ij, messages-sent_by j new) (rw (tidy, go) at (reply-own-arbiter r a b j u k n ent f w))))
            (λ e. let ne = eqb-false i j e in rw (e, messages-other i j new ne, append-nil, without_other a b i r.under_way x f ne) (w.arbiters i)));
        in_range = w.in_range;
        mode_range = w.mode_range;
        clock_in_range = w.clock_in_range;
        grant_in_range = grants _ r.rows (λ i. refl);
        lacks_one = λ i m. by_bool (eqb i k)
            (λ e. let ik = eqb-true i k e in
            let (j0, s, ne, h) = not-all-held r j k n fit.2 fu in (j0, rw ik s, rw (ne_eqb j0 j ne, ik) h))
            (λ e. let (j0, s, h) = w.lacks_one i m in (
              j0,
              s,
              by_bool (eqb j0 j)
                  (λ v. rw v (reply-held (setting_of y j) t k n ent i (eqb-false i k e) (rw (← (eqb-true j0 j v)) h)))
                  (λ v. rw v h),
            ));
      }))

  -- any message
  delivered-kept : (r : Rig) (a b j : ℕ) (m : Message) → first (channel a b) r.under_way ≡ some (sent j (m)) → RigInvariant y r → RigInvariant y (delivered y r (without_first (channel a b) r.under_way) j m)
  unfolding delivered update FitsTables
  delivered-kept r a b j (reply u k n) e w = reply-kept r a b j u k n e w
  delivered-kept r a b j (fail k n) e w = fail-kept r a b j k n e w
  delivered-kept r a b j (request k new) e w = with_effect-kept r a b (sent j (request k new)) (update r.clock j (max (r.clock j) new.number)) (λ i. by_bool (eqb i j) (λ u. rw u (λ h. rw (eqb-true i j u) (lw.member_in_range k j (first_fits y lw r a b j (request k new) e w).3))) (λ u. rw u (w.clock_in_range i))) refl e w
  delivered-kept r a b j (release k n) e w = with_effect-kept r a b (sent j (release k n)) r.clock w.clock_in_range refl e w
  delivered-kept r a b j (hand_over k x n) e w = with_effect-kept r a b (sent j (hand_over k x n)) r.clock w.clock_in_range refl e w
  delivered-kept r a b j (inquire k n) e w = with_effect-kept r a b (sent j (inquire k n)) r.clock w.clock_in_range refl e w
  delivered-kept r a b j (yield k n) e w = with_effect-kept r a b (sent j (yield k n)) r.clock w.clock_in_range refl e w
  delivered-kept r a b j (transfer k x n) e w = with_effect-kept r a b (sent j (transfer k x n)) r.clock w.clock_in_range refl e w

  -- any delivery
  taken_off-kept : (r : Rig) (a b : ℕ) (x : Option Sent) → first (channel a b) r.under_way ≡ x → RigInvariant y r → RigInvariant y (taken_off y r a b x)
  unfolding taken_off
  taken_off-kept r a b none e w = w
  taken_off-kept r a b (some x) e w = off r a b x.arbiter x.message e w
    where
      off : (r : Rig) (a b j : ℕ) (m : Message) → first (channel a b) r.under_way ≡ some (sent j (m)) → RigInvariant y r → RigInvariant y (delivered y r (without_first (channel a b) r.under_way) j m)
      off r a b j m e w = delivered-kept r a b j m e w

  -- any event; a refused one changes nothing
  pub step_kept : (r : Rig) (e : Event) → RigInvariant y r → RigInvariant y (step y r e)
  unfolding step
  step_kept r (ask s) w = by_bool ((leb 1 s && leb s y.size) && eqb (r.sites.mode s) REST)
      (λ e. let z = and_split (leb 1 s && leb s y.size) (eqb (r.sites.mode s) REST) e in
      let v = and_split (leb 1 s) (leb s y.size) z.0 in
      rw e (asked-kept r s (leb-true 1 s v.0) (leb-true s y.size v.1) (eqb-true (r.sites.mode s) REST z.1) w))
      (λ e. rw e w)
  step_kept r (leave s) w = by_bool (eqb (r.sites.mode s) INSIDE) (λ e. rw e (left-kept r s (eqb-true (r.sites.mode s) INSIDE e) w)) (λ e. rw e w)
  step_kept r (deliver a b) w = taken_off-kept r a b (first (channel a b) r.under_way) refl w
  step_kept r (lose p) w = record {
    arbiters = λ j. lost-kept (setting_of y j) (local_at r j) _ _ (messages-lost j p r.under_way) (w.arbiters j);
    in_range = w.in_range;
    mode_range = w.mode_range;
    clock_in_range = w.clock_in_range;
    grant_in_range = w.grant_in_range;
    lacks_one = w.lacks_one;
  }

  -- every state of a run
  pub run-kept : (es : List Event) (r : Rig) → RigInvariant y r → RigInvariant y (run y es r)
  unfolding run
  run-kept [] r w = w
  run-kept (e ∷ es) r w = run-kept es (step y r e) (step_kept r e w)

  -- the fresh state
  pub fresh_kept : RigInvariant y fresh
  unfolding fresh messages_of fresh_view
  fresh_kept = record { arbiters = λ j. fresh-invariant (setting_of y j) (law-of y lw j); in_range = λ k h. absurd (h refl); mode_range = λ k. omega arith; clock_in_range = λ k h. absurd (h refl); grant_in_range = λ k h. absurd (h refl); lacks_one = λ k h. absurd (omega arith) }

  -- every reached state
  pub reached : (es : List Event) → RigInvariant y (run y es fresh)
  reached es = run-kept es fresh fresh_kept
