-- A request, a release and a yield delivered: the definitions and the machine come to the same state of the whole rig.
use Prim.Native.Nat.{ℕ, ◌≤◌}
use mathlib.Core.Path.{◌≡◌, refl, sym, ◌∙◌, ap}
use mathlib.Core.Bool.{Bool, cond}
use mathlib.Core.List.{List, ◌++◌, map, map-append}
use lib.Dec.{eqb}
use lib.ListN.{length}
use Rattle.rig.specs.declared.Desk.{Desk}
use Rattle.rig.specs.declared.Message.{Message}
use Rattle.rig.specs.declared.Site.{Site}
use Rattle.rig.specs.Limits.{site_limit}
use Rattle.basics.specs.Helpers.{update}
use Rattle.protocol.specs.Ask.{Ask, ask_with}
use Rattle.protocol.specs.Message as M
use Rattle.protocol.specs.Local as P
use Rattle.protocol.specs.Site.{handled}
use Rattle.protocol.specs.Rig as R
use Rattle.basics.proofs.Basics.{update_same, update_other}
use Rattle.model.specs.Tables.{at, cell}
use Rattle.model.specs.State.{Tables, sets_of, has_member, site_of, mode_of, failed_in, held_of, heir_of, inquired_of, desk_of, with_desk}
use Rattle.model.specs.Desk.{Effect}
use Rattle.model.specs.Arbiter.{holder_of, granted, queued_up, clock_raised, on_request, on_release, on_yield}
use Rattle.model.proofs.Machine.{mode_number, ask_in, system_of, sites_of, row_of, sent_of, rig_of, local_at, Sized, desk-sized, rig-path, sites-path, update_self, sites_with, clock_with, rig-with}
use Rattle.model.proofs.ArbiterRules.{Sees, SiteKept, request-sees, release-sees, hand_over-sees, yield-sees, request-kept, release-kept, yield-kept}

-- a site that keeps its mode
pub sites-kept : (t : Tables) (b : ℕ) (d : Desk) → d.site.mode ≡ mode_of t b → sites_with t b d.site.mode ≡ sites_of t
sites-kept t b d e = sites-path (update_self _ b _ (ap mode_number (sym e))) (update_self _ b _ (ap ask_in (sym e))) (update_self _ b _ (ap failed_in (sym e)))

-- entries that stay as they are
row_kept : (t : Tables) (b : ℕ) (d : Desk) (g h : ℕ) (a : Ask) (q : ℕ → Ask) (j : ℕ) → d.held ≡ (desk_of t b).held → d.heir ≡ (desk_of t b).heir → d.inquired ≡ (desk_of t b).inquired
    → ◌≡◌ {A = R.Row} (record { grant = g; holder = h; holder_ask = a; queued = q; held = update (λ k. held_of t k j) b (at 0 d.held j); heir = update (λ k. heir_of t k j) b (at 0 d.heir j); inquired = update (λ k. inquired_of t k j) b (at 0 d.inquired j) })
    (record { grant = g; holder = h; holder_ask = a; queued = q; held = λ k. held_of t k j; heir = λ k. heir_of t k j; inquired = λ k. inquired_of t k j })
unfolding desk_of cell
row_kept t b d g h a q j e f i =
    let x = update_self (λ k. held_of t k j) b (at 0 d.held j) (rw e) in
    let y = update_self (λ k. heir_of t k j) b (at 0 d.heir j) (rw f) in
    let z = update_self (λ k. inquired_of t k j) b (at 0 d.inquired j) (rw i) in
    λ w. record { grant = g; holder = h; holder_ask = a; queued = q; held = x w; heir = y w; inquired = z w }

module _ (t : Tables) (z : Sized t) (b : ℕ) (lo : 1 ≤ b) (hi : b ≤ site_limit) (rest : List Message) where
  -- what an arbiter's rule makes of the rig; its desk d has the clock of before or another
  of-arbiter : (d : Desk) (e : Effect) (v : P.View) → SiteKept d e.desk → Sees (local_at t b) e v
      → d.number ≡ b → d.site.mode ≡ mode_of t b → d.held ≡ (desk_of t b).held → d.heir ≡ (desk_of t b).heir → d.inquired ≡ (desk_of t b).inquired
      → rig_of (with_desk t b e.desk) (rest ++ e.sent) ≡ record { sites = sites_of t; clock = clock_with t b d.site.clock; rows = update (λ j. row_of t j) b (R.row_of v.tables); under_way = map sent_of rest ++ R.sent_by b v.messages }
  of-arbiter d e v k s num mode he hr iq =
      let u = e.desk in
      rig-with t z b lo hi u (update (λ j. row_of t j) b (R.row_of v.tables)) (rest ++ e.sent)
      (λ j ne. row_kept t b u _ _ _ _ j (k.held ∙ he) (k.heir ∙ hr) (k.inquired ∙ iq) ∙ sym (update_other _ b _ j ne))
      (row_kept t b u _ _ _ _ b (k.held ∙ he) (k.heir ∙ hr) (k.inquired ∙ iq) ∙ ap R.row_of s.tables ∙ sym (update_same _ b _))
      ∙ rig-path (sites-kept t b u (ap (λ (x : Site). x.mode) k.site ∙ mode)) (ap (λ (x : Site). clock_with t b x.clock) k.site) refl
      (map-append sent_of rest e.sent ∙ ap (λ (x : List R.Sent). map sent_of rest ++ x) (s.sent ∙ ap (λ (x : ℕ). R.sent_by x v.messages) (k.number ∙ num)))

  -- a rule that leaves the clock too
  of-rule : (e : Effect) (v : P.View) → SiteKept (desk_of t b) e.desk → Sees (local_at t b) e v
      → rig_of (with_desk t b e.desk) (rest ++ e.sent) ≡ record { sites = sites_of t; clock = λ k. (site_of t k).clock; rows = update (λ j. row_of t j) b (R.row_of v.tables); under_way = map sent_of rest ++ R.sent_by b v.messages }
  unfolding desk_of
  of-rule e v k s = of-arbiter (desk_of t b) e v k s refl refl refl refl refl ∙ rig-path refl (update_self _ b _ refl) refl refl

  abbrev members : ℕ → Bool
  members k = has_member (sets_of t) k b

  long : length (desk_of t b).queued ≡ site_limit
  long = (desk-sized t b z lo hi).queued

  size : (desk_of t b).size ≤ site_limit
  unfolding desk_of
  size = z.size

  module _ (ms : List Message) (k : ℕ) where
    pub release-delivered : (x : ℕ) → 1 ≤ k → k ≤ site_limit
        → rig_of (with_desk t b (on_release (desk_of t b) k 0 x).desk) (rest ++ (on_release (desk_of t b) k 0 x).sent) ≡ R.delivered (system_of t) (rig_of t ms) (map sent_of rest) b (M.release k x)
    unfolding R.delivered handled desk_of cell
    release-delivered x l h = of-rule (on_release (desk_of t b) k 0 x) _ (release-kept (desk_of t b) k 0 x long) (release-sees (local_at t b) members (desk_of t b) long size k x l h)

    pub hand_over-delivered : (y x : ℕ) → 1 ≤ y → y ≤ site_limit
        → rig_of (with_desk t b (on_release (desk_of t b) k y x).desk) (rest ++ (on_release (desk_of t b) k y x).sent) ≡ R.delivered (system_of t) (rig_of t ms) (map sent_of rest) b (M.hand_over k y x)
    unfolding R.delivered handled desk_of cell
    hand_over-delivered y x l h = of-rule (on_release (desk_of t b) k y x) _ (release-kept (desk_of t b) k y x long) (hand_over-sees (local_at t b) members (desk_of t b) long size k y x l h)

    pub yield-delivered : (x : ℕ) → 1 ≤ k → k ≤ site_limit
        → rig_of (with_desk t b (on_yield (desk_of t b) k x).desk) (rest ++ (on_yield (desk_of t b) k x).sent) ≡ R.delivered (system_of t) (rig_of t ms) (map sent_of rest) b (M.yield k x)
    unfolding R.delivered handled desk_of cell
    yield-delivered x l h = of-rule (on_yield (desk_of t b) k x) _ (yield-kept (desk_of t b) k x long) (yield-sees (local_at t b) members (desk_of t b) long size k x l h)

    pub request-delivered : (x : ℕ) → 1 ≤ k → k ≤ site_limit
        → rig_of (with_desk t b (on_request (desk_of t b) k x).desk) (rest ++ (on_request (desk_of t b) k x).sent) ≡ R.delivered (system_of t) (rig_of t ms) (map sent_of rest) b (M.request k (ask_with x))
    unfolding R.delivered handled desk_of cell on_request clock_raised
    request-delivered x l h =
        let d = clock_raised (desk_of t b) x in
        of-arbiter d (cond (eqb (holder_of d) 0) (granted d k x) (queued_up d k x)) _ (request-kept d k x long) (request-sees (local_at t b) members d long size k x l h) refl refl refl refl refl
