-- A reply delivered: the definitions and the machine come to the same state of the whole rig.
use Prim.Native.Nat.{ℕ, ◌≤◌}
use mathlib.Core.Path.{◌≡◌, refl, sym, ◌∙◌, fun_ext}
use mathlib.Core.Logic.{◌≢◌}
use mathlib.Core.Bool.{true, not, ◌&&◌, cond}
use mathlib.Core.List.{List, [], ◌++◌, map, map-append}
use native.Mathlib.Omega.{arith}
use lib.Dec.{eqb}
use lib.ListN.{length}
use borrow.Author.Tests.{eqb-true, eqb-false, eq-eqb}
use Rattle.basics.specs.Helpers.{update}
use Rattle.basics.proofs.Basics.{by_bool, and_split, all_same, update_same, update-update}
use Rattle.rig.specs.declared.Message.{Message}
use Rattle.rig.specs.declared.Mode.TheVariants.{Inside}
use Rattle.rig.specs.Limits.{site_limit}
use Rattle.protocol.specs.Message as M
use Rattle.protocol.specs.Local as P
use Rattle.protocol.specs.Site as S
use Rattle.protocol.specs.Rig as R
use Rattle.model.specs.Tables.{at, put, cell}
use Rattle.model.specs.State.{Tables, is_waiting, failed_in, size_of, sets_of, has_member, site_of, mode_of, held_of, inquired_of, desk_of, with_desk}
use Rattle.model.specs.Desk.{has_failed, inquired_for}
use Rattle.model.specs.Site.{failed_set, yielded, all_held, entered, taken, entered_or_yielded, takes, on_reply}
use Rattle.model.proofs.Tables.{at-put-same, at-put-other, at_same, length-put}
use Rattle.model.proofs.Machine.{system_of, sites_of, row_of, sent_of, rig_of, local_at, Sized, desk-sized, waits-same, rig-path, update_self, sites_with}
use Rattle.model.proofs.SiteDelivered.{of-site, of_entry, nothing, columns, waiting-failed}

module _ (t : Tables) (z : Sized t) (b : ℕ) (lo : 1 ≤ b) (hi : b ≤ site_limit) (rest : List Message) (j : ℕ) (lj : 1 ≤ j) (hj : j ≤ site_limit) (m : ℕ) where
  -- the desk's row after a store at member j
  same : (row : List ℕ) (v : ℕ) → length row ≡ site_limit → at 0 (put row j v) j ≡ v
  same row v e = at-put-same 0 row j v lj (omega arith)

  other : (row : List ℕ) (v : ℕ) (i : ℕ) → i ≢ j → at 0 (put row j v) i ≡ at 0 row i
  other row v i ne = at-put-other 0 row j v i ne

  -- the remembered inquire, once the number is held
  abbrev left : ℕ
  left = cond (eqb (inquired_of t b j) m) m 0

  abbrev inquired' : ℕ → ℕ
  inquired' = update (λ k. inquired_of t k j) b left

  -- the number is held, and nothing more
  holds :
      rig_of (with_desk t b (taken (desk_of t b) j m)) (rest ++ [])
      ≡ record { sites = sites_of t; clock = λ k. (site_of t k).clock; rows = update (λ i. row_of t i) j (R.row_of (S.taken (local_at t j) b m)); under_way = map sent_of rest ++ R.sent_by j [] }
  unfolding taken desk_of cell R.sent_by
  holds =
      let y = desk-sized t b z lo hi in
      of_entry t z b lo hi rest j (taken (desk_of t b) j m) [] (P.view (S.taken (local_at t j) b m) []) (record { arbiter = refl; queued = refl }) refl refl
      (other (desk_of t b).held m) (λ i ne. refl) (other (desk_of t b).inquired left)
      (columns t z b lo hi j (rw (same (desk_of t b).held m y.held)) (update_self _ b _ refl) (rw (same (desk_of t b).inquired left y.inquired)))
      refl

  -- the number is held, and the member is yielded at once
  abbrev gone : P.View
  gone = S.yielded (P.view (S.taken (local_at t j) b m) []) b

  yields-it : is_waiting (mode_of t b) ≡ true → failed_in (mode_of t b) ≡ true
      → rig_of (with_desk t b (yielded (taken (desk_of t b) j m) j).desk) (rest ++ (yielded (taken (desk_of t b) j m) j).sent)
      ≡ record { sites = sites_of t; clock = λ k. (site_of t k).clock; rows = update (λ i. row_of t i) j (R.row_of gone.tables); under_way = map sent_of rest ++ R.sent_by j gone.messages }
  unfolding taken yielded failed_set desk_of cell S.yielded R.sent_by
  yields-it w f =
      let y = desk-sized t b z lo hi in
      let d = desk_of t b in
      of_entry t z b lo hi rest j (yielded (taken d j m) j).desk _ gone (record { arbiter = refl; queued = refl }) (sym (waiting-failed (mode_of t b) w f)) refl
      (λ i ne. other (put d.held j m) 0 i ne ∙ other d.held m i ne)
      (other d.heir 0)
      (λ i ne. other (put d.inquired j left) 0 i ne ∙ other d.inquired left i ne)
      (columns t z b lo hi j
      (rw (same (put d.held j m) 0 (length-put d.held j m ∙ y.held)) (sym (update-update (λ k. held_of t k j) b m 0)))
      (rw (same d.heir 0 y.heir))
      (rw (same (put d.inquired j left) 0 (length-put d.inquired j left ∙ y.inquired)) (sym (update-update (λ k. inquired_of t k j) b left 0))))
      (rw (same d.held m y.held, update_same (λ k. held_of t k j) b m))

  -- all members are held: the site enters
  enters :
      rig_of (with_desk t b (entered (taken (desk_of t b) j m))) (rest ++ [])
      ≡ record {
        sites = sites_with t b Inside;
        clock = λ k. (site_of t k).clock;
        rows = λ i. cond (eqb i j) (R.row_of (S.entered (P.view (S.taken (local_at t j) b m) []) b).tables) (R.without_inquired (row_of t i) b);
        under_way = map sent_of rest ++ R.sent_by j [];
      }
  unfolding entered taken desk_of cell S.entered R.sent_by
  enters =
      let y = desk-sized t b z lo hi in
      let d = desk_of t b in
      of-site t z b lo hi (entered (taken d j m)) (rest ++ []) (record { arbiter = refl; queued = refl })
      ∙ rig-path refl (update_self _ b _ refl)
      (fun_ext (λ i. by_bool (eqb i j)
      (λ e. let q = eqb-true i j e in rw (e, q)
      (columns t z b lo hi j (rw (same d.held m y.held)) (update_self _ b _ refl) (rw (at_same {A = ℕ} 0 site_limit j) (sym (update-update (λ k. inquired_of t k j) b left 0)))))
      (λ e. let ne = eqb-false i j e in rw e
      (columns t z b lo hi i (update_self _ b _ (sym (other d.held m i ne))) (update_self _ b _ refl) (rw (at_same {A = ℕ} 0 site_limit i))))))
      (map-append sent_of rest [])

  -- whether all members are held once the number is
  full-same : (ms : List Message) → all_held (taken (desk_of t b) j m) ≡ R.all_held (system_of t) (R.rows_taken (rig_of t ms) j b m) b
  unfolding all_held taken desk_of cell R.all_held update
  full-same ms =
      let d = desk_of t b in
      all_same _ _ (size_of t) (λ i l h. by_bool (eqb i j)
      (λ e. let q = eqb-true i j e in rw (e, q, same d.held m (desk-sized t b z lo hi).held, eq-eqb b b refl))
      (λ e. rw (e, other d.held m i (eqb-false i j e))))

  takes_same : takes (desk_of t b) j ≡ is_waiting (mode_of t b) && (has_member (sets_of t) b j && eqb (held_of t b j) 0)
  unfolding takes desk_of cell
  takes_same = refl

  yields-same : has_failed (taken (desk_of t b) j m) && not (eqb (inquired_for (taken (desk_of t b) j m) j) 0) ≡ failed_in (mode_of t b) && not (eqb (inquired' b) 0)
  unfolding taken desk_of cell
  yields-same = rw (same (desk_of t b).inquired left (desk-sized t b z lo hi).inquired, update_same (λ k. inquired_of t k j) b left)

  pub reply-delivered : (ms : List Message) (f : ℕ)
      → rig_of (with_desk t b (on_reply (desk_of t b) j m).desk) (rest ++ (on_reply (desk_of t b) j m).sent) ≡ R.delivered (system_of t) (rig_of t ms) (map sent_of rest) j (M.reply f b m)
  unfolding on_reply entered_or_yielded R.delivered S.handled S.on_reply S.entered update
  reply-delivered ms f =
      let k = waits-same (mode_of t b) in
      by_bool (is_waiting (mode_of t b) && (has_member (sets_of t) b j && eqb (held_of t b j) 0))
      (λ e. let w = (and_split _ _ e).0 in
      by_bool (all_held (taken (desk_of t b) j m))
      (λ h. rw (takes_same, k, e, ← full-same ms, h) enters)
      (λ h. by_bool (failed_in (mode_of t b) && not (eqb (inquired' b) 0))
      (λ q. rw (takes_same, k, e, ← full-same ms, h, yields-same, q) (yields-it w (and_split _ _ q).0))
      (λ q. rw (takes_same, k, e, ← full-same ms, h, yields-same, q) holds)))
      (λ e. rw (takes_same, k, e) (nothing t z b lo hi rest j))
