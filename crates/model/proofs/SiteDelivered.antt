-- An inquire and a transfer delivered, and what a yield does: the definitions and the machine come to the same state of the whole
-- rig. A site's rule changes what the site has, and of each arbiter's row the entries of that site alone.
use Prim.Native.Nat.{ℕ, ◌≤◌}
use mathlib.Core.Path.{◌≡◌, refl, sym, ◌∙◌, ap, fun_ext}
use mathlib.Core.Logic.{◌≢◌}
use mathlib.Core.Bool.{true, false}
use mathlib.Core.List.{List, [], ◌++◌, map, map-append}
use native.Mathlib.Omega.{arith}
use lib.Dec.{eqb}
use lib.ListN.{length}
use borrow.Author.Tests.{eqb-true, eqb-false}
use Rattle.rig.specs.declared.Desk.{Desk}
use Rattle.rig.specs.declared.Message.{Message}
use Rattle.rig.specs.declared.Mode.{Mode}
use Rattle.rig.specs.declared.Mode.TheVariants.{Rest, Waiting, Inside}
use Rattle.rig.specs.Limits.{site_limit}
use Rattle.basics.specs.Helpers.{update}
use Rattle.protocol.specs.Ask.{ask_with}
use Rattle.protocol.specs.Message as M
use Rattle.protocol.specs.Local as P
use Rattle.protocol.specs.Site as S
use Rattle.protocol.specs.Rig as R
use Rattle.model.specs.Tables.{at, put, cell}
use Rattle.model.specs.State.{Tables, is_waiting, seq_in, failed_in, site_of, mode_of, arbiter_of, held_of, heir_of, inquired_of, queued_of, desk_of, with_desk}
use Rattle.model.specs.Desk.{waits, has_failed, held_for, heir_for, inquired_for, with_entries}
use Rattle.model.specs.Site.{failed_set, yielded, remembered, yielded_or_remembered, on_inquire, on_transfer}
use Rattle.basics.proofs.Basics.{by_bool, clash}
use Rattle.model.proofs.Tables.{at-put-same, at-put-other}
use Rattle.model.proofs.Machine.{system_of, sites_of, row_of, sent_of, rig_of, local_at, Sized, desk-sized, waits-same, rig-path, update_self, sites_with, clock_with, other_row, rig-with}
use Rattle.model.proofs.ArbiterDelivered.{sites-kept}

-- what a site's rule leaves as it is: the arbiter's part of the desk
pub record ArbiterKept (d u : Desk) : Type 0 where
  pub arbiter : u.arbiter ≡ d.arbiter
  pub queued : u.queued ≡ d.queued

pub waiting-failed : (m : Mode) → is_waiting m ≡ true → failed_in m ≡ true → m ≡ Waiting (seq_in m) true
waiting-failed Rest a b = clash false a refl
waiting-failed (Waiting s true) a b = refl
waiting-failed (Waiting s false) a b = clash false b refl
waiting-failed Inside a b = clash false a refl

module _ (t : Tables) (z : Sized t) (b : ℕ) (lo : 1 ≤ b) (hi : b ≤ site_limit) where
  -- the rig once site b has the desk u
  pub of-site : (u : Desk) (ms : List Message) → ArbiterKept (desk_of t b) u
      → rig_of (with_desk t b u) ms ≡ record { sites = sites_with t b u.site.mode; clock = clock_with t b u.site.clock; rows = λ j. other_row t b u j; under_way = map sent_of ms }
  unfolding desk_of cell
  of-site u ms k = rig-with t z b lo hi u (λ j. other_row t b u j) ms (λ j ne. refl) (rw (k.arbiter, k.queued))

  -- the entries of one member alone
  abbrev pub entered-row : Desk → ℕ → R.Row
  entered-row u j = R.row_of (P.with_entries (local_at t j) (update (λ k. held_of t k j) b (held_for u j)) (update (λ k. heir_of t k j) b (heir_for u j)) (update (λ k. inquired_of t k j) b (inquired_for u j)))

  pub rows-of-one : (u : Desk) (j : ℕ) → ((i : ℕ) → i ≢ j → held_for u i ≡ held_of t b i) → ((i : ℕ) → i ≢ j → heir_for u i ≡ heir_of t b i) → ((i : ℕ) → i ≢ j → inquired_for u i ≡ inquired_of t b i)
      → ◌≡◌ {A = ℕ → R.Row} (λ i. other_row t b u i) (update (λ i. row_of t i) j (entered-row u j))
  unfolding update
  rows-of-one u j eh er ei = fun_ext (λ i. by_bool (eqb i j)
      (λ e. rw (e, eqb-true i j e))
      (λ e. rw e (same i (eqb-false i j e))))
    where
      same : (i : ℕ) → i ≢ j → other_row t b u i ≡ row_of t i
      same i ne =
          let x = update_self (λ k. held_of t k i) b (held_for u i) (sym (eh i ne)) in
          let y = update_self (λ k. heir_of t k i) b (heir_for u i) (sym (er i ne)) in
          let w = update_self (λ k. inquired_of t k i) b (inquired_for u i) (sym (ei i ne)) in
          λ s. record { grant = (arbiter_of t i).grant; holder = (arbiter_of t i).holder; holder_ask = ask_with (arbiter_of t i).seq; queued = λ k. ask_with (queued_of t i k); held = x s; heir = y s; inquired = w s }

  -- three columns, each by its equation
  pub columns : (j : ℕ) {he he' hr hr' iq iq' : ℕ → ℕ} → he ≡ he' → hr ≡ hr' → iq ≡ iq' → R.row_of (P.with_entries (local_at t j) he hr iq) ≡ R.row_of (P.with_entries (local_at t j) he' hr' iq')
  columns j x y w = λ s. record { grant = (arbiter_of t j).grant; holder = (arbiter_of t j).holder; holder_ask = ask_with (arbiter_of t j).seq; queued = λ k. ask_with (queued_of t j k); held = x s; heir = y s; inquired = w s }

  module _ (rest : List Message) (j : ℕ) where
    -- the rig where only the entries for member j change
    pub of_entry : (u : Desk) (sent : List Message) (v : P.View) → ArbiterKept (desk_of t b) u → u.site.mode ≡ mode_of t b → u.site.clock ≡ (site_of t b).clock
        → ((i : ℕ) → i ≢ j → held_for u i ≡ held_of t b i) → ((i : ℕ) → i ≢ j → heir_for u i ≡ heir_of t b i) → ((i : ℕ) → i ≢ j → inquired_for u i ≡ inquired_of t b i)
        → entered-row u j ≡ R.row_of v.tables → map sent_of sent ≡ R.sent_by j v.messages
        → rig_of (with_desk t b u) (rest ++ sent) ≡ record { sites = sites_of t; clock = λ k. (site_of t k).clock; rows = update (λ i. row_of t i) j (R.row_of v.tables); under_way = map sent_of rest ++ R.sent_by j v.messages }
    of_entry u sent v k m c eh er ei row ms =
        of-site u (rest ++ sent) k
        ∙ rig-path (sites-kept t b u m) (update_self _ b _ (sym c)) (rows-of-one u j eh er ei ∙ ap (λ (x : R.Row). update (λ i. row_of t i) j x) row) (map-append sent_of rest sent ∙ rw ms)

    pub nothing : rig_of (with_desk t b (desk_of t b)) (rest ++ []) ≡ record { sites = sites_of t; clock = λ k. (site_of t k).clock; rows = update (λ i. row_of t i) j (R.row_of (local_at t j)); under_way = map sent_of rest ++ R.sent_by j [] }
    unfolding desk_of cell R.sent_by
    nothing =
        of_entry (desk_of t b) [] (P.view (local_at t j) []) (record { arbiter = refl; queued = refl }) refl refl (λ i ne. refl) (λ i ne. refl) (λ i ne. refl)
        (columns j (update_self _ b _ refl) (update_self _ b _ refl) (update_self _ b _ refl)) refl

    module _ (lj : 1 ≤ j) (hj : j ≤ site_limit) where
      -- member j's place in a row
      same : (row : List ℕ) (v : ℕ) → length row ≡ site_limit → at 0 (put row j v) j ≡ v
      same row v e = at-put-same 0 row j v lj (omega arith)

      other : (row : List ℕ) (v : ℕ) (i : ℕ) → i ≢ j → at 0 (put row j v) i ≡ at 0 row i
      other row v i ne = at-put-other 0 row j v i ne

      -- a site that waits and has failed yields j
      pub yields : waits (desk_of t b) ≡ true → has_failed (desk_of t b) ≡ true
          → rig_of (with_desk t b (yielded (desk_of t b) j).desk) (rest ++ (yielded (desk_of t b) j).sent)
          ≡ record { sites = sites_of t; clock = λ k. (site_of t k).clock; rows = update (λ i. row_of t i) j (R.row_of (S.yielded (P.view (local_at t j) []) b).tables); under_way = map sent_of rest ++ R.sent_by j (S.yielded (P.view (local_at t j) []) b).messages }
      unfolding yielded failed_set desk_of cell S.yielded R.sent_by
      yields w f =
          let y = desk-sized t b z lo hi in
          of_entry (yielded (desk_of t b) j).desk _ (S.yielded (P.view (local_at t j) []) b) (record { arbiter = refl; queued = refl })
          (sym (waiting-failed (mode_of t b) w f)) refl
          (other (desk_of t b).held 0) (other (desk_of t b).heir 0) (other (desk_of t b).inquired 0)
          (columns j (rw (same (desk_of t b).held 0 y.held)) (rw (same (desk_of t b).heir 0 y.heir)) (rw (same (desk_of t b).inquired 0 y.inquired)))
          refl

      pub transfer-delivered : (ms : List Message) (x m : ℕ)
          → rig_of (with_desk t b (on_transfer (desk_of t b) j x m).desk) (rest ++ (on_transfer (desk_of t b) j x m).sent) ≡ R.delivered (system_of t) (rig_of t ms) (map sent_of rest) j (M.transfer b x m)
      unfolding on_transfer R.delivered S.handled S.on_transfer desk_of cell R.sent_by
      transfer-delivered ms x m =
          let y = desk-sized t b z lo hi in
          by_bool (eqb m (held_of t b j))
          (λ e. rw e
          (of_entry (with_entries (desk_of t b) (desk_of t b).held (put (desk_of t b).heir j x) (desk_of t b).inquired) []
          (P.view (P.with_entries (local_at t j) (λ k. held_of t k j) (update (λ k. heir_of t k j) b x) (λ k. inquired_of t k j)) []) (record { arbiter = refl; queued = refl }) refl refl
          (λ i ne. refl) (other (desk_of t b).heir x) (λ i ne. refl)
          (columns j (update_self _ b _ refl) (rw (same (desk_of t b).heir x y.heir)) (update_self _ b _ refl))
          refl))
          (λ e. rw e nothing)

      -- an inquire is remembered
      remembers : (m : ℕ)
          → rig_of (with_desk t b (remembered (desk_of t b) j m)) (rest ++ [])
          ≡ record { sites = sites_of t; clock = λ k. (site_of t k).clock; rows = update (λ i. row_of t i) j (R.row_of (S.remembered (local_at t j) b m)); under_way = map sent_of rest ++ R.sent_by j [] }
      unfolding remembered desk_of cell R.sent_by
      remembers m =
          let y = desk-sized t b z lo hi in
          of_entry (remembered (desk_of t b) j m) [] (P.view (S.remembered (local_at t j) b m) []) (record { arbiter = refl; queued = refl }) refl refl
          (λ i ne. refl) (λ i ne. refl) (other (desk_of t b).inquired m)
          (columns j (update_self _ b _ refl) (update_self _ b _ refl) (rw (same (desk_of t b).inquired m y.inquired)))
          refl

      pub inquire-delivered : (ms : List Message) (m : ℕ)
          → rig_of (with_desk t b (on_inquire (desk_of t b) j m).desk) (rest ++ (on_inquire (desk_of t b) j m).sent) ≡ R.delivered (system_of t) (rig_of t ms) (map sent_of rest) j (M.inquire b m)
      unfolding on_inquire yielded_or_remembered R.delivered S.handled S.on_inquire desk_of cell
      inquire-delivered ms m =
          let k = waits-same (mode_of t b) in
          by_bool (is_waiting (mode_of t b))
          (λ w. by_bool (eqb (held_of t b j) 0)
          (λ e. rw (k, w, e) (remembers m))
          (λ e. by_bool (eqb m (held_of t b j))
          (λ f. by_bool (failed_in (mode_of t b))
          (λ g. rw (k, w, e, f, g) (yields w g))
          (λ g. rw (k, w, e, f, g) (remembers m)))
          (λ f. rw (k, w, e, f) nothing)))
          (λ w. rw (k, w) nothing)
