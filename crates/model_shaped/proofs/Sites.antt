-- What a site does when it asks or leaves, and with a reply, an inquire, a fail or a transfer, keeps its desk shaped, and what it sends is shaped.
use Prim.Native.Nat.{ℕ, zero, suc, ◌+◌, ◌≤◌}
use mathlib.Core.Path.{◌≡◌, refl, ◌∙◌}
use mathlib.Core.Logic.{◌≢◌}
use mathlib.Core.Bool.{Bool, true, false, not, ◌&&◌, cond}
use mathlib.Core.List.{List, []}
use native.Mathlib.Omega.{arith}
use lib.Dec.{eqb}
use borrow.Author.Tests.{eqb-false, not-true}
use Rattle.basics.specs.Helpers.{All}
use Rattle.basics.proofs.Basics.{by_bool, clash, and_split}
use Rattle.basics.proofs.Lists.{all_append}
use Rattle.rig.specs.declared.Desk.{Desk}
use Rattle.rig.specs.declared.Mode.{Mode}
use Rattle.rig.specs.declared.Mode.TheVariants.{Rest, Waiting, Inside}
use Rattle.rig.specs.Limits.{number_limit, blank_row}
use Rattle.rig.specs.Messages.{request, reply, release, yield}
use Rattle.model.specs.State.{is_waiting, seq_in, has_member}
use Rattle.model.specs.Desk.{Effect, effect, has, waits, has_failed, held_for, heir_for, inquired_for}
use Rattle.model.specs.Shape.{is_given, mode_shaped, own_shaped, heir_shaped}
use Rattle.model.specs.Ask.{requests, asked}
use Rattle.model.specs.Leave.{hand_on, hand_ons, left}
use Rattle.model.specs.Site.{failed_set, yielded, all_held, entered, taken, entered_or_yielded, takes, on_reply, remembered, yielded_or_remembered, on_inquire, must_yield, yielded_if, yielded_up_to, fail_counts, on_fail, names_held, on_transfer}
use Rattle.model.proofs.Tables.{at-put-same, length-put}
use Rattle.model_shaped.proofs.Rows.{row_put, row-blank}
use Rattle.model_shaped.proofs.Fine.{given, Here, Entries, Fine, Passes, FineEffect, own-none, heir-none, own_of, heir-of, heir-tied, request-passes, reply-passes, release-passes, hand_over-passes, yield-passes}
use Rattle.model_shaped.proofs.Changes.{with-site, with_entries_lem, sent-by, member_of, member-listed}

-- a waiting site has a sequence number
waiting-number : (m : Mode) → is_waiting m ≡ true → mode_shaped m ≡ true → is_given (seq_in m) ≡ true
unfolding mode_shaped
waiting-number Rest w h = clash false w refl
waiting-number (Waiting s f) w h = h
waiting-number Inside w h = clash false w refl

module _ {n : ℕ} {sets : List ℕ} {b : ℕ} (p : Here n sets b) where
  abbrev F : Desk → Type 0
  F d = Fine n sets b d

  no-entries : Entries n sets b blank_row blank_row blank_row
  no-entries = record {
    held = row-blank (own_shaped sets b) (own-none sets b);
    heir = row-blank (heir_shaped sets b) (heir-none sets b);
    inquired = row-blank (own_shaped sets b) (own-none sets b);
    long = refl;
  }

  -- the ask

  requests-fine : (d : Desk) → F d → (x : ℕ) → 1 ≤ x → (i : ℕ) → All (Passes n sets) (requests d x i)
  unfolding requests All
  requests-fine d f x l zero = tt
  requests-fine d f x l (suc i) = all_append _ (requests d x i) _ (requests-fine d f x l i)
      (by_bool (has d (suc i))
      (λ e. rw e (sent-by d f (λ s. request s (suc i) x) (request-passes p (suc i) x (member_of d f (suc i) e) l), tt))
      (λ e. rw e tt))

  pub asked-fine : (d : Desk) → F d → FineEffect n sets b (asked d)
  unfolding asked mode_shaped
  asked-fine d f =
      let seq = d.site.clock + 1 in
      record {
        desk = with-site _ (with_entries_lem d f blank_row blank_row blank_row no-entries) (record { mode = Waiting seq false; clock = seq }) (λ h. given seq (omega arith) h);
        sent = requests-fine d f seq (omega arith) d.size;
      }

  -- the leave

  hand_on-fine : (d : Desk) → F d → (j : ℕ) → has d j ≡ true → held_for d j ≢ 0 → All (Passes n sets) (hand_on d.number j (heir_for d j) (held_for d j))
  unfolding hand_on All
  hand_on-fine d f j m ne =
      let e = member_of d f j m in
      let g = held_for d j in
      let k = heir_for d j in
      let low : 1 ≤ g = omega arith in
      by_bool (eqb k 0)
      (λ z. rw z (sent-by d f (λ s. release s j 0 g) (release-passes p j g e low), tt))
      (λ z. let t = heir-tied sets b j k (f.entries.heir j (member-listed p b j e)) (eqb-false k 0 z) in
      rw z (
        sent-by d f (λ s. reply s k j (g + 1)) (reply-passes p k j (g + 1) t (omega arith)),
        (sent-by d f (λ s. release s j k g) (hand_over-passes p j k g e t low), tt),
      ))

  hand_ons-fine : (d : Desk) → F d → (i : ℕ) → All (Passes n sets) (hand_ons d i)
  unfolding hand_ons All
  hand_ons-fine d f zero = tt
  hand_ons-fine d f (suc i) = all_append _ (hand_ons d i) _ (hand_ons-fine d f i)
      (by_bool (has d (suc i) && not (eqb (held_for d (suc i)) 0))
      (λ e. let w = and_split (has d (suc i)) _ e in rw e (hand_on-fine d f (suc i) w.0 (eqb-false _ 0 (not-true _ w.1))))
      (λ e. rw e tt))

  pub left-fine : (d : Desk) → F d → FineEffect n sets b (left d)
  unfolding left mode_shaped
  left-fine d f = record {
    desk = with-site _ (with_entries_lem d f blank_row blank_row blank_row no-entries) (record { mode = Rest; clock = d.site.clock }) (λ h. refl);
    sent = hand_ons-fine d f d.size;
  }

  -- to yield

  failed-fine : (d : Desk) → F d → waits d ≡ true → F (failed_set d)
  unfolding failed_set mode_shaped
  failed-fine d f w = with-site d f _ (λ h. waiting-number d.site.mode w (f.site h))

  yielded-fine : (d : Desk) → F d → waits d ≡ true → (j : ℕ) → has_member sets b j ≡ true → held_for d j ≢ 0 → FineEffect n sets b (yielded d j)
  unfolding yielded failed_set All
  yielded-fine d f w j e ne = record {
    desk = with_entries_lem (failed_set d) (failed-fine d f w) _ _ _ (record {
      held = row_put (own_shaped sets b) d.held j 0 f.entries.held (own-none sets b j);
      heir = row_put (heir_shaped sets b) d.heir j 0 f.entries.heir (heir-none sets b j);
      inquired = row_put (own_shaped sets b) d.inquired j 0 f.entries.inquired (own-none sets b j);
      long = length-put d.held j 0 ∙ f.entries.long;
    });
    sent = (sent-by d f (λ s. yield s j (held_for d j)) (yield-passes p j (held_for d j) e (omega arith)), tt);
  }

  -- the reply

  entered-fine : (d : Desk) → F d → F (entered d)
  unfolding entered mode_shaped
  entered-fine d f =
      let u = with_entries_lem d f d.held d.heir blank_row (record {
        held = f.entries.held;
        heir = f.entries.heir;
        inquired = row-blank (own_shaped sets b) (own-none sets b);
        long = f.entries.long;
      }) in
      with-site _ u (record { mode = Inside; clock = d.site.clock }) (λ h. refl)

  forgotten : (t : Bool) (j x : ℕ) → has_member sets b j ≡ true → x ≤ number_limit → own_shaped sets b j (cond t x 0) ≡ true
  forgotten true j x e h = own_of sets b j x e h
  forgotten false j x e h = own-none sets b j

  taken_fine : (d : Desk) → F d → (j x : ℕ) → has_member sets b j ≡ true → x ≤ number_limit → F (taken d j x)
  unfolding taken
  taken_fine d f j x e h = with_entries_lem d f _ _ _ (record {
    held = row_put (own_shaped sets b) d.held j x f.entries.held (own_of sets b j x e h);
    heir = f.entries.heir;
    inquired = row_put (own_shaped sets b) d.inquired j _ f.entries.inquired (forgotten (eqb (inquired_for d j) x) j x e h);
    long = length-put d.held j x ∙ f.entries.long;
  })

  taken-held : (d : Desk) → F d → (j x : ℕ) → has_member sets b j ≡ true → held_for (taken d j x) j ≡ x
  unfolding taken
  taken-held d f j x e = let r = member-listed p b j e in at-put-same 0 d.held j x r.low (omega (arith, r.high, f.entries.long))

  taken-waits : (d : Desk) (j x : ℕ) → waits d ≡ true → waits (taken d j x) ≡ true
  unfolding taken
  taken-waits d j x w = w

  pub reply-fine : (d : Desk) → F d → (j x : ℕ) → 1 ≤ x → x ≤ number_limit → FineEffect n sets b (on_reply d j x)
  unfolding on_reply entered_or_yielded takes All
  reply-fine d f j x l h =
      let u = taken d j x in
      by_bool (takes d j)
      (λ e. let w = and_split (waits d) _ e in
      let m = member_of d f j (and_split (has d j) _ w.1).0 in
      let fu = taken_fine d f j x m h in
      let q = taken-held d f j x m in
      by_bool (all_held u)
      (λ a. rw (e, a) (record { desk = entered-fine u fu; sent = tt }))
      (λ a. by_bool (has_failed u && not (eqb (inquired_for u j) 0))
      (λ g. rw (e, a, g) (yielded-fine u fu (taken-waits d j x w.0) j m (λ z. omega (arith, z, q, l))))
      (λ g. rw (e, a, g) (record { desk = fu; sent = tt }))))
      (λ e. rw e (record { desk = f; sent = tt }))

  -- the inquire

  remembered-fine : (d : Desk) → F d → (j x : ℕ) → has_member sets b j ≡ true → x ≤ number_limit → F (remembered d j x)
  unfolding remembered
  remembered-fine d f j x e h = with_entries_lem d f d.held d.heir _ (record {
    held = f.entries.held;
    heir = f.entries.heir;
    inquired = row_put (own_shaped sets b) d.inquired j x f.entries.inquired (own_of sets b j x e h);
    long = f.entries.long;
  })

  pub inquire-fine : (d : Desk) → F d → (j x : ℕ) → has_member sets b j ≡ true → x ≤ number_limit → FineEffect n sets b (on_inquire d j x)
  unfolding on_inquire yielded_or_remembered All
  inquire-fine d f j x m h =
      let kept : FineEffect n sets b (effect (remembered d j x) []) = record { desk = remembered-fine d f j x m h; sent = tt } in
      by_bool (waits d)
      (λ w. by_bool (eqb (held_for d j) 0)
      (λ e. rw (w, e) kept)
      (λ e. by_bool (eqb x (held_for d j))
      (λ g. by_bool (has_failed d) (λ t. rw (w, e, g, t) (yielded-fine d f w j m (eqb-false _ 0 e))) (λ t. rw (w, e, g, t) kept))
      (λ g. rw (w, e, g) (record { desk = f; sent = tt }))))
      (λ w. rw w (record { desk = f; sent = tt }))

  -- the fail

  -- an effect after which the site waits
  abbrev WaitsOn : Effect → Type 0
  WaitsOn e = FineEffect n sets b e × (waits e.desk ≡ true)

  yielded_if-fine : (d : Desk) → F d → waits d ≡ true → (j : ℕ) → WaitsOn (yielded_if d j)
  unfolding yielded_if must_yield yielded failed_set All
  yielded_if-fine d f w j =
      by_bool (must_yield d j)
      (λ e. let a = and_split (has d j) _ e in
      let c = and_split (not (eqb (held_for d j) 0)) _ a.1 in
      rw e (yielded-fine d f w j (member_of d f j a.0) (eqb-false _ 0 (not-true _ c.0)), refl))
      (λ e. rw e (record { desk = f; sent = tt }, w))

  yielded_up_to-fine : (d : Desk) → F d → waits d ≡ true → (i : ℕ) → WaitsOn (yielded_up_to d i)
  unfolding yielded_up_to All
  yielded_up_to-fine d f w zero = (record { desk = f; sent = tt }, w)
  yielded_up_to-fine d f w (suc i) =
      let a = yielded_up_to-fine d f w i in
      let c = yielded_if-fine (yielded_up_to d i).desk a.0.desk a.1 (suc i) in
      (record { desk = c.0.desk; sent = all_append _ (yielded_up_to d i).sent _ a.0.sent c.0.sent }, c.1)

  pub fail-fine : (d : Desk) → F d → (x : ℕ) → FineEffect n sets b (on_fail d x)
  unfolding on_fail fail_counts failed_set All
  fail-fine d f x =
      by_bool (fail_counts d x)
      (λ e. rw e (yielded_up_to-fine (failed_set d) (failed-fine d f (and_split (waits d) _ e).0) refl d.size).0)
      (λ e. rw e (record { desk = f; sent = tt }))

  -- the transfer

  pub transfer-fine : (d : Desk) → F d → (j x y : ℕ) → has_member sets b j ≡ true → has_member sets x j ≡ true → FineEffect n sets b (on_transfer d j x y)
  unfolding on_transfer All
  transfer-fine d f j x y e h =
      by_bool (names_held d j y)
      (λ t. rw t (record {
        desk = with_entries_lem d f d.held _ d.inquired (record {
          held = f.entries.held;
          heir = row_put (heir_shaped sets b) d.heir j x f.entries.heir (heir-of sets b j x e h);
          inquired = f.entries.inquired;
          long = f.entries.long;
        });
        sent = tt;
      }))
      (λ t. rw t (record { desk = f; sent = tt }))
