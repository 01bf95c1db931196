-- An ask and a leave: the definitions and the machine come to the same state of the whole rig.
use Prim.Native.Nat.{ℕ, zero, suc, ◌+◌, ◌≤◌}
use mathlib.Core.Path.{◌≡◌, refl, ◌∙◌, ap, fun_ext}
use mathlib.Core.Bool.{not, ◌&&◌}
use mathlib.Core.List.{List, ◌++◌, map, map-append}
use native.Mathlib.Numerals.{add-one}
use lib.Dec.{eqb}
use Rattle.basics.proofs.Basics.{by_bool}
use Rattle.rig.specs.declared.Message.{Message}
use Rattle.rig.specs.declared.Mode.TheVariants.{Inside}
use Rattle.rig.specs.Limits.{site_limit}
use Rattle.protocol.specs.Ask.{ask_with}
use Rattle.protocol.specs.Rig as R
use Rattle.model.specs.Tables.{cell}
use Rattle.model.specs.State.{Tables, failed_in, size_of, sets_of, has_member, site_of, mode_of, held_of, heir_of, desk_of, with_desk}
use Rattle.model.specs.Desk.{without_entries}
use Rattle.model.specs.Ask.{requests, asked}
use Rattle.model.specs.Leave.{hand_on, hand_ons, left}
use Rattle.model.proofs.Tables.{at_same}
use Rattle.model.proofs.Machine.{ask_in, system_of, row_of, sent_of, rig_of, Sized, rig-path, sites-path, update_self, other_row}
use Rattle.model.proofs.SiteDelivered.{of-site, columns}

requests-same : (t : Tables) (s seq n : ℕ) → map sent_of (requests (desk_of t s) seq n) ≡ R.in_order (R.requests (system_of t) s (ask_with seq)) n
unfolding requests desk_of R.in_order R.sent_by
requests-same t s seq zero = refl
requests-same t s seq (suc i) =
    map-append sent_of (requests (desk_of t s) seq i) _
    ∙ rw (requests-same t s seq i) (by_bool (has_member (sets_of t) s (suc i)) (λ e. rw e) (λ e. rw e))

hand_ons-same : (t : Tables) (s : ℕ) (ms : List Message) (n : ℕ) → map sent_of (hand_ons (desk_of t s) n) ≡ R.in_order (R.hand_ons (system_of t) (rig_of t ms) s) n
unfolding hand_ons hand_on desk_of cell R.in_order R.sent_by
hand_ons-same t s ms zero = refl
hand_ons-same t s ms (suc i) =
    map-append sent_of (hand_ons (desk_of t s) i) _
    ∙ rw (hand_ons-same t s ms i)
    (by_bool (has_member (sets_of t) s (suc i) && not (eqb (held_of t s (suc i)) 0))
    (λ e. by_bool (eqb (heir_of t s (suc i)) 0) (λ f. rw (e, f)) (λ f. rw (e, f, add-one, f)))
    (λ e. rw e))

module _ (t : Tables) (z : Sized t) (s : ℕ) (lo : 1 ≤ s) (hi : s ≤ site_limit) (ms : List Message) where
  -- all entries of the site are cleared
  cleared : (j : ℕ) → other_row t s (without_entries (desk_of t s)) j ≡ R.without_entries (row_of t j) s
  cleared j = columns t z s lo hi j (rw (at_same {A = ℕ} 0 site_limit j)) (rw (at_same {A = ℕ} 0 site_limit j)) (rw (at_same {A = ℕ} 0 site_limit j))

  pub ask-same : rig_of (with_desk t s (asked (desk_of t s)).desk) (ms ++ (asked (desk_of t s)).sent) ≡ R.asked (system_of t) (rig_of t ms) s
  unfolding asked R.asked desk_of
  ask-same =
      of-site t z s lo hi (asked (desk_of t s)).desk (ms ++ (asked (desk_of t s)).sent) (record { arbiter = refl; queued = refl })
      ∙ rig-path (rw add-one) (rw add-one) (fun_ext cleared)
      (map-append sent_of ms _ ∙ rw (requests-same t s ((site_of t s).clock + 1) (size_of t), add-one))

  pub leave_same : mode_of t s ≡ Inside → rig_of (with_desk t s (left (desk_of t s)).desk) (ms ++ (left (desk_of t s)).sent) ≡ R.left (system_of t) (rig_of t ms) s
  unfolding left R.left desk_of
  leave_same e =
      of-site t z s lo hi (left (desk_of t s)).desk (ms ++ (left (desk_of t s)).sent) (record { arbiter = refl; queued = refl })
      ∙ rig-path (sites-path refl (update_self _ s _ (ap ask_in e)) (update_self _ s _ (ap failed_in e))) (update_self _ s _ refl) (fun_ext cleared)
      (map-append sent_of ms _ ∙ rw (hand_ons-same t s ms (size_of t)))
