-- An event leaves the lengths of a state's arrays and of its list, and so does every run.
use Prim.Native.Nat.{ℕ}
use mathlib.Core.Path.{◌≡◌, ◌∙◌}
use mathlib.Core.Bool.{Bool, true}
use mathlib.Core.List.{List, [], ◌∷◌}
use mathlib.Core.Option.{Option, none, some}
use lib.Dec.{eqb}
use lib.ListN.{length}
use borrow.Author.Tests.{eq-eqb}
use Rattle.basics.specs.Helpers.{first, without_first}
use Rattle.basics.proofs.Basics.{by_bool, and_split}
use Rattle.rig.specs.declared.Desk.{Desk}
use Rattle.rig.specs.declared.Message.{Message}
use Rattle.rig.specs.declared.Event.{Event}
use Rattle.rig.specs.declared.Event.TheVariants.{Ask, Leave, Deliver}
use Rattle.rig.specs.Limits.{site_limit, message_limit, SiteNumber}
use Rattle.model.specs.Setup.{setup_code}
use Rattle.model.specs.State.{Stored, under_way, size_of, in_range, is_resting, is_inside, desk_of, with_desk, with_accepted}
use Rattle.model.specs.Deliver.{between}
use Rattle.model.specs.Shape.{well_shaped}
use Rattle.model.specs.Event.{actor, sites_named, Attempt, refused, possible, taken_off, attempt, attempted, effect_code, Outcome, accepted_state, judged, event_at, settled, played, tested, event}
use Rattle.model.specs.Run.{fresh, run}
use Rattle.model.specs.Losses.{with_lost, Move, happens, loses, moved, run_with_losses}
use Rattle.model.proofs.Tables.{Square}
use Rattle.model.proofs.Machine.{Sized, DeskSized, desk-sized, sized-desk}
use Rattle.model.proofs.DeskSizes.{asked-sized, left-sized, delivered-sized}
use Rattle.model.proofs.Shaped.{shaped, listed}
use Rattle.model.proofs.Codes.{event-long}
use Rattle.model.proofs.Lost.{length-lost}
use Rattle.model.proofs.Theorem.{run_of}
use Rattle.save_text.specs.Claims.{IsTable, IsState}
use Rattle.save_runs.specs.Breaks.{SameState}

square : {table : List (List ℕ)} → IsTable table → Square site_limit table
square h = record { rows = h.rows; columns = h.columns }

is-table : {table : List (List ℕ)} → Square site_limit table → IsTable table
is-table h = record { rows = h.rows; columns = h.columns }

sized : (s : Stored) → IsState s → well_shaped s ≡ true → Sized s.tables
sized s h w =
    let sets = (shaped s w).sets in
    record {
      size = sets.high;
      sets = sets.long;
      sites = h.sites;
      arbiters = h.arbiters;
      held = square h.held;
      heir = square h.heir;
      inquired = square h.inquired;
      queued = square h.queued;
    }

pub is_state : (s : Stored) → Sized s.tables → length s.list ≡ message_limit → IsState s
is_state s z long = record {
  sites = z.sites;
  arbiters = z.arbiters;
  held = is-table z.held;
  heir = is-table z.heir;
  inquired = is-table z.inquired;
  queued = is-table z.queued;
  list = long;
}

pub state-same : {s t : Stored} → SameState s t → length s.list ≡ message_limit → IsState t → IsState s
state-same e long h = record {
  sites = rw e.tables h.sites;
  arbiters = rw e.tables h.arbiters;
  held = rw e.tables h.held;
  heir = rw e.tables h.heir;
  inquired = rw e.tables h.inquired;
  queued = rw e.tables h.queued;
  list = long;
}

-- the desk that an attempt at a desk leaves
abbrev AttemptSized : Attempt → Type 0
AttemptSized (refused c) = Unit {0}
AttemptSized (possible e rest) = DeskSized e.desk

module _ (d : Desk) (y : DeskSized d) (ms : List Message) where
  taken-sized : (m : Option Message) (rest : List Message) → AttemptSized (taken_off d m rest)
  unfolding taken_off
  taken-sized none rest = tt
  taken-sized (some m) rest = delivered-sized d m y

  attempt-sized : (e : Event) → AttemptSized (attempt d ms e)
  unfolding attempt
  attempt-sized (Ask k) = by_bool (is_resting d.site.mode) (λ b. rw b (asked-sized d y)) (λ b. rw b tt)
  attempt-sized (Leave k) = by_bool (is_inside d.site.mode) (λ b. rw b (left-sized d y)) (λ b. rw b tt)
  attempt-sized (Deliver a b) = taken-sized (first (between a b) ms) (without_first (between a b) ms)

  judged-sized : (n : ℕ) (a : Attempt) → AttemptSized a → DeskSized (judged n d ms a).desk
  unfolding judged
  judged-sized n (refused c) h = y
  judged-sized n (possible e rest) h = by_bool (eqb (effect_code n e rest) 0) (λ b. rw b h) (λ b. rw b y)

actor-named : (n : ℕ) (e : Event) → sites_named n e ≡ true → in_range n (actor e) ≡ true
unfolding sites_named actor
actor-named n (Ask k) h = h
actor-named n (Leave k) h = h
actor-named n (Deliver a b) h = (and_split (in_range n a) (in_range n b) h).1

module _ (s : Stored) (h : IsState s) where
  accepted-sized : well_shaped s ≡ true → (k : ℕ) → SiteNumber k → (d : Desk) (ms : List Message) → DeskSized d → Sized (accepted_state s.tables k d ms).tables
  unfolding accepted_state with_desk with_accepted
  accepted-sized w k r d ms y =
      let z = sized-desk s.tables k d (sized s h w) y r.low r.high in
      record { size = z.size; sets = z.sets; sites = z.sites; arbiters = z.arbiters; held = z.held; heir = z.heir; inquired = z.inquired; queued = z.queued }

  settled-sized : well_shaped s ≡ true → (k : ℕ) → SiteNumber k → (o : Outcome) → DeskSized o.desk → Sized (settled s k o).next.tables
  unfolding settled
  settled-sized w k r o y = by_bool (eqb o.code 0) (λ b. rw b (accepted-sized w k r o.desk o.messages y)) (λ b. rw b (sized s h w))

  -- an event refused with 4
  refused-sized : well_shaped s ≡ true → (k n : ℕ) (d : Desk) (ms : List Message) → Sized (settled s k (judged n d ms (refused 4))).next.tables
  unfolding settled judged
  refused-sized w k n d ms = sized s h w

  played-sized : well_shaped s ≡ true → (e : Event) → Sized (played s e).next.tables
  unfolding played event_at attempted desk_of
  played-sized w e =
      let t = s.tables in
      let k = actor e in
      by_bool (sites_named (size_of t) e)
      (λ b. let r = listed s (shaped s w) k (actor-named (size_of t) e b) in
      let y = desk-sized t k (sized s h w) r.low r.high in
      rw b (settled-sized w k r _ (judged-sized (desk_of t k) y (under_way s) t.rig.accepted (attempt (desk_of t k) (under_way s) e) (attempt-sized (desk_of t k) y (under_way s) e))))
      (λ b. rw b (refused-sized w k _ _ _))

  pub event-state : (e : Event) → IsState (event s e).next
  unfolding event tested
  event-state e =
      by_bool (well_shaped s)
      (λ w. let long = event-long s e h.list in rw (eq-eqb _ message_limit h.list, w) (is_state _ (played-sized w e) (rw (eq-eqb _ message_limit h.list, w) at long)))
      (λ w. rw (eq-eqb _ message_limit h.list, w) h)

pub lost-state : (p : ℕ → Bool) (s : Stored) → IsState s → IsState (with_lost p s)
unfolding with_lost
lost-state p s h = record { sites = h.sites; arbiters = h.arbiters; held = h.held; heir = h.heir; inquired = h.inquired; queued = h.queued; list = length-lost p s.list ∙ h.list }

pub moves-state : (moves : List Move) (s : Stored) → IsState s → IsState (run_with_losses s moves)
unfolding run_with_losses moved
moves-state [] s h = h
moves-state (happens e ∷ moves) s h = moves-state moves _ (event-state s h e)
moves-state (loses p ∷ moves) s h = moves-state moves _ (lost-state p s h)

-- the fresh state of sets that pass, on a list of 1,024 entries
pub fresh-state : (n : ℕ) (sets : List ℕ) (list : List Message) → setup_code n sets ≡ 0 → length list ≡ message_limit → IsState (fresh n sets list)
unfolding run fresh
fresh-state n sets list e long = is_state _ (run_of n sets list [] e).sized long
