-- What holds at each turn of the loop: before the first, after an event, and where the loop ends.
use Prim.Native.Nat.{ℕ, ◌+◌, ◌-◌, ◌≤◌, ◌<◌}
use mathlib.Core.Path.{◌≡◌, refl, ◌∙◌}
use mathlib.Core.Bool.{false}
use mathlib.Core.List.{List}
use mathlib.Core.Logic.{inl, inr}
use Rattle.std.specs.Prelude.{Some, None}
use native.Mathlib.Omega.{arith}
use lib.ListN.{length, set}
use Rattle.rig.specs.declared.Event.{Event}
use Rattle.rig.specs.declared.Rig.{Rig}
use Rattle.rig.specs.Limits.{site_limit, event_limit}
use Rattle.model.specs.Event.{actor, event_at}
use Rattle.model.specs.Run.{waiting_count}
use Rattle.model.specs.Printed.{inside_up_to}
use Rattle.model_shaped.specs.Kept.{Playable}
use Rattle.list_rows.specs.Rows.{ZeroPast}
use Rattle.list_rows.specs.State.{stored}
use Rattle.event_sites.specs.Places.{place_of, counted_on}
use Rattle.event_storing.specs.declared.Done.{Done}
use Rattle.event_storing.specs.Leaves.{Left, messages_in}
use Rattle.event_storing.specs.Needs.{SiteReady}
use Rattle.event_rows.proofs.Ready.{desk_from, ready, size-high, accepted-high}
use Rattle.event_rows.proofs.Stepping.{stepped-at}
use Rattle.player_grammar.specs.Grammar.{meaning_of}
use Rattle.player_printing.specs.Printing.{step_line, page_length}
use Rattle.player_bytes.specs.Wrote.{Wrote}
use Rattle.player_text.specs.declared.Player.{Player}
use Rattle.player_text.specs.declared.Stage.TheVariants.{Events}
use Rattle.player_text.specs.Player.{counted, event_in}
use Rattle.player_text.specs.Calls.{text, HoldsAt, PlayerFits}
use Rattle.player_events.specs.declared.Stretch.{Stretch}
use Rattle.player_next.specs.Lines.{between, LineTo}
use Rattle.player_events.specs.Stretches.{player_at, Plays, Stops, Ends, Stretches}
use Rattle.player_events.proofs.Reading.{plays-line, plays-nothing, wrote-long}
use Rattle.player_events.proofs.Turns.{event-line, event-playable, other-line}

pub record Going (p : Player) (ts₀ : List (List (List ℕ))) (rows₀ : List (List ℕ)) (bytes : List ℕ) (from : ℕ) (out₀ : List ℕ) (at : ℕ) (ts : List (List (List ℕ))) (rows : List (List ℕ)) (out : List ℕ) (g : Rig) (n step line i w read to : ℕ) : Type 0 where
  pub plays : Plays (text p ts₀ rows₀) (between from read bytes) (text (player_at p line step g n) ts rows) at out₀ out to
  pub quick : p.tested ≡ false
  pub playable : Playable (stored g ts rows n)
  pub zeros : ZeroPast n rows
  pub inside : i ≡ inside_up_to g g.size
  pub waiting : w ≡ waiting_count g
  pub low : from ≤ read
  pub high : read ≤ length bytes
  pub room : to ≤ length out
  pub long : length out ≡ length out₀

module _ {p : Player} {ts : List (List (List ℕ))} {rows : List (List ℕ)} {bytes out : List ℕ} {from at i w : ℕ} where
  pub begins : PlayerFits p ts rows → p.stage ≡ Events → p.tested ≡ false → from ≤ length bytes → at ≤ length out
      → i ≡ inside_up_to p.rig p.rig.size → w ≡ waiting_count p.rig
      → Going p ts rows bytes from out at ts rows out p.rig p.count p.step p.line i w from at
  begins f e q low room a b =
      let h : HoldsAt Events p ts rows = rw e at f.fits in
      let playable : Playable (stored p.rig ts rows p.count) = rw q at h.0 in
      record {
        plays = plays-nothing (text p ts rows) _ bytes out from at (rw e);
        quick = q;
        playable = playable;
        zeros = h.1;
        inside = a;
        waiting = b;
        low = omega arith;
        high = low;
        room = room;
        long = refl;
      }

module _ {p : Player} {ts₀ ts : List (List (List ℕ))} {rows₀ rows : List (List ℕ)} {bytes out₀ out : List ℕ} {g : Rig} {from at n step line i w read to : ℕ}
    (go : Going p ts₀ rows₀ bytes from out₀ at ts rows out g n step line i w read to) where
  pub turn-ready : (k : ℕ) → SiteReady (desk_from g ts k (place_of g.size k)) n rows
  turn-ready k = ready g ts k rows n go.playable.shaped go.zeros

  pub turn-size : g.size ≤ site_limit
  turn-size = size-high g ts 0 rows n go.playable.shaped

  pub turn-accepted : g.accepted ≤ event_limit
  turn-accepted = accepted-high g ts 0 rows n go.playable.shaped

  -- an event's line
  module _ (e : Event) {end : ℕ} (found : LineTo end read bytes) (is : event_in (meaning_of (between read end bytes)) ≡ Some e)
      (r : Done) {ts' : List (List (List ℕ))} {rows' : List (List ℕ)} (j m : ℕ) (place : j ≡ place_of g.size (actor e))
      (left : Left (event_at g.accepted (desk_from g ts (actor e) j) (messages_in n rows) e) (actor e) n ts ts' rows rows' r)
      (counts : m ≡ counted_on g.accepted r.code) where
    abbrev pub next_rig : Rig
    next_rig = record { size = g.size; sets = g.sets; sites = set g.sites j r.site; arbiters = set g.arbiters j r.arbiter; accepted = m }

    pub turn-goes : {out' : List ℕ} {line' step' i' w' to' : ℕ} → line' ≡ counted line → step' ≡ counted step
        → i' ≡ inside_up_to next_rig g.size → w' ≡ waiting_count next_rig
        → Wrote (step_line step' r.code i' w' r.count) to out out' to' → to' ≤ length out
        → Going p ts₀ rows₀ bytes from out₀ at ts' rows' out' next_rig r.count step' line' i' w' (end + 1) to'
    turn-goes a b c d wrote fits =
        let s = stepped-at g ts ts' rows rows' n e r (rw place at left) j m place counts in
        let same = wrote-long wrote in
        let low = go.low in
        let long = go.long in
        let first = found.first in
        let within = found.within in
        record {
          plays = plays-line found from go.plays go.low _ _ (event-line p line step g n ts rows (between read end bytes) e next_rig r.count r.code ts' rows' go.playable s is a b c d) wrote;
          quick = go.quick;
          playable = event-playable p line step g n ts rows (between read end bytes) e next_rig r.count r.code ts' rows' go.playable s;
          zeros = left.zeros;
          inside = c;
          waiting = d;
          low = omega arith;
          high = omega arith;
          room = omega arith;
          long = same ∙ go.long;
        }

  -- any other line
  pub turn-stops : {end : ℕ} → LineTo end read bytes → event_in (meaning_of (between read end bytes)) ≡ None
      → {out' : List ℕ} (r : Stretch) → Stops (player_at p line step g n) to (end + 1) out out' r
      → Stretches p ts₀ ts rows₀ rows bytes from out₀ out' at r
  turn-stops {end} found is r s =
      let low = go.low in
      let long = go.long in
      let first = found.first in
      let within = found.within in
      let read' = s.read in
      let room = s.room in
      record {
        plays = rw (s.read, s.player) (plays-line found from go.plays go.low _ _ (other-line p line step g n ts rows (between read end bytes) is) s.printed);
        fits = rw s.player (record { fits = tt });
        low = omega arith;
        high = omega arith;
        room = omega arith;
        ends = inr (inl (rw s.player));
      }

  -- no room for another line
  pub turn-full : length out - to < page_length → length out₀ < to + page_length
  turn-full h = let room = go.room in let long = go.long in omega arith

  -- no line more
  pub turn-ends : (q : Player) → q ≡ player_at p line step g n → Ends bytes out₀ (record { player = q; from = read; at = to })
      → Stretches p ts₀ ts rows₀ rows bytes from out₀ out at (record { player = q; from = read; at = to })
  turn-ends q same ends =
      let room = go.room in
      let long = go.long in
      record {
        plays = rw same go.plays;
        fits = rw same (record { fits = (rw go.quick go.playable, go.zeros) });
        low = go.low;
        high = go.high;
        room = omega arith;
        ends = ends;
      }
