-- The rig with an event's outcome stored at its site is the state that the event leaves.
use Prim.Native.Nat.{ℕ, ◌+◌, ◌-◌}
use mathlib.Core.Path.{◌≡◌, refl, sym, ap, ◌∙◌}
use mathlib.Core.Bool.{true, false}
use mathlib.Core.List.{List, [], map}
use lib.Dec.{eqb}
use lib.ListN.{get_or, set}
use lib.Seq.{set-get_or}
use Rattle.basics.proofs.Basics.{by_bool, clash, and_second}
use Rattle.rig.specs.declared.Rig.{Rig}
use Rattle.rig.specs.declared.Desk.{Desk}
use Rattle.rig.specs.declared.Event.{Event}
use Rattle.rig.specs.declared.Event.TheVariants.{Ask, Leave, Deliver}
use Rattle.rig.specs.declared.Message.{Message}
use Rattle.rig.specs.Limits.{HELD, HEIR, INQUIRED, QUEUED}
use Rattle.model.specs.Tables.{put}
use Rattle.model.specs.Setup.{resting_site, free_arbiter}
use Rattle.model.specs.State.{under_way, in_range, tables, with_desk, with_accepted, desk_of}
use Rattle.model.specs.Event.{actor, sites_named, Attempt, refused, possible, attempted, effect_code, Outcome, judged, event_at, Answer, accepted_state, settled, attempt_on, played}
use Rattle.model.proofs.Tables.{put-write, put_self}
use Rattle.model.proofs.Shaped.{within}
use Rattle.list_rows.specs.Rows.{message_of}
use Rattle.list_rows.specs.State.{stored}
use Rattle.event_desks.specs.Parts.{with_rows}
use Rattle.event_storing.specs.declared.Done.{Done}
use Rattle.event_storing.specs.Leaves.{Left, messages_in}
use Rattle.event_sites.specs.Places.{place_of, counted_on}
use Rattle.event_rows.proofs.Ready.{under-way, desk_from, desk-of}

-- A refusal leaves the desk as it came.
module _ (n : ℕ) (d : Desk) (ms : List Message) where
  judged-kept : (a : Attempt) → eqb (judged n d ms a).code 0 ≡ false → (judged n d ms a).desk ≡ d
  unfolding judged
  judged-kept (refused c) h = refl
  judged-kept (possible e rest) h = by_bool (eqb (effect_code n e rest) 0) (λ b. clash true refl (rw b at h)) (λ b. rw b)

  kept : (e : Event) → eqb (event_at n d ms e).code 0 ≡ false → (event_at n d ms e).desk ≡ d
  unfolding event_at
  kept e h = judged-kept (attempted d ms e) h

-- a site that is none of 1 to N is not named
none_named : (n : ℕ) (e : Event) → in_range n (actor e) ≡ false → sites_named n e ≡ false
unfolding actor sites_named
none_named n (Ask k) h = h
none_named n (Leave k) h = h
none_named n (Deliver a b) h = and_second (in_range n a) (in_range n b) h

-- the attempt at the parts that stand at the index is the one at the site's desk
pub same_attempt : (g : Rig) (ts : List (List (List ℕ))) (rows : List (List ℕ)) (n : ℕ) (e : Event) → attempt_on (stored g ts rows n) e ≡ attempted (desk_from g ts (actor e) (place_of g.size (actor e))) (messages_in n rows) e
unfolding attempted desk_of
same_attempt g ts rows n e =
    by_bool (in_range g.size (actor e)) (λ h. rw (desk-of g ts (actor e) h, under-way n rows)) (λ h. rw (none_named g.size e h))

module _ (g : Rig) (ts ts' : List (List (List ℕ))) (rows rows' : List (List ℕ)) (n : ℕ) (e : Event) (r : Done) where
  abbrev k : ℕ
  k = actor e

  abbrev i : ℕ
  i = place_of g.size k

  -- the outcome at the parts that stand at the index, and at the site's desk
  abbrev o : Outcome
  o = event_at g.accepted (desk_from g ts k i) (messages_in n rows) e

  abbrev result : Outcome
  result = event_at g.accepted (desk_of (tables g ts) k) (under_way (stored g ts rows n)) e

  named-same : in_range g.size k ≡ true → result ≡ o
  named-same h = rw (desk-of g ts k h, under-way n rows)

  unnamed-code : in_range g.size k ≡ false → (result.code ≡ 4) × (o.code ≡ 4)
  unfolding event_at attempted judged desk_of
  unnamed-code h = let z = none_named g.size e h in (rw z, rw z)

  code_same : result.code ≡ o.code
  code_same = by_bool (in_range g.size k) (λ h. ap (λ (x : Outcome). x.code) (named-same h)) (λ h. let u = unnamed-code h in u.0 ∙ sym u.1)

  -- an event of code 0 names its site
  in-range : eqb o.code 0 ≡ true → in_range g.size k ≡ true
  in-range h = by_bool (in_range g.size k) (λ b. b) (λ b. clash false (rw (unnamed-code b).1 at h) refl)

  abbrev next : Rig
  next = record { size = g.size; sets = g.sets; sites = set g.sites i r.site; arbiters = set g.arbiters i r.arbiter; accepted = counted_on g.accepted r.code }

  module _ (l : Left o k n ts ts' rows rows' r) where
    -- refused: all as it came
    module _ (h : eqb o.code 0 ≡ false) where
      same-desk : o.desk ≡ desk_from g ts k i
      same-desk = kept g.accepted (desk_from g ts k i) (messages_in n rows) e h

      same-rig : next ≡ g
      same-rig =
          let s : set g.sites i r.site ≡ g.sites = rw (l.site ∙ ap (λ (d : Desk). d.site) same-desk) (set-get_or g.sites i resting_site) in
          let a : set g.arbiters i r.arbiter ≡ g.arbiters = rw (l.arbiter ∙ ap (λ (d : Desk). d.arbiter) same-desk) (set-get_or g.arbiters i free_arbiter) in
          let c : counted_on g.accepted r.code ≡ g.accepted = rw (l.code, h) in
          λ j. record { size = g.size; sets = g.sets; sites = s j; arbiters = a j; accepted = c j }

      same_tables : tables next ts' ≡ tables g ts
      same_tables =
          l.rows next
          ∙ rw (same-desk, put_self [] (get_or ts HELD []) k, put_self [] (get_or ts HEIR []) k, put_self [] (get_or ts INQUIRED []) k, put_self [] (get_or ts QUEUED []) k)
          (ap (λ (x : Rig). tables x ts) same-rig)

      refusal : ◌≡◌ {A = Answer} (record { code = r.code; next = stored next ts' rows' r.count }) (played (stored g ts rows n) e)
      unfolding played settled
      refusal =
          let x = l.stays h in
          let p : stored next ts' rows' r.count ≡ stored g ts rows n = λ j. record { tables = same_tables j; list = map message_of (x.1 j); count = x.0 j } in
          rw (code_same, h) (λ j. record { code = l.code j; next = p j })

    -- accepted: the outcome at its site
    module _ (h : eqb o.code 0 ≡ true) where
      index : i ≡ k - 1
      index = rw (in-range h)

      next-rig : next ≡ (with_accepted (with_desk (tables g ts) k o.desk) (g.accepted + 1)).rig
      unfolding with_accepted with_desk
      next-rig =
          let low = (within g.size k (in-range h)).0 in
          let s : set g.sites i r.site ≡ put g.sites k o.desk.site = ap (λ (j : ℕ). set g.sites j r.site) index ∙ ap (set g.sites (k - 1)) l.site ∙ sym (put-write g.sites k o.desk.site low) in
          let a : set g.arbiters i r.arbiter ≡ put g.arbiters k o.desk.arbiter = ap (λ (j : ℕ). set g.arbiters j r.arbiter) index ∙ ap (set g.arbiters (k - 1)) l.arbiter ∙ sym (put-write g.arbiters k o.desk.arbiter low) in
          let c : counted_on g.accepted r.code ≡ g.accepted + 1 = rw (l.code, h) in
          λ j. record { size = g.size; sets = g.sets; sites = s j; arbiters = a j; accepted = c j }

      next-tables : tables next ts' ≡ with_accepted (with_desk (tables g ts) k o.desk) (g.accepted + 1)
      unfolding with_accepted with_desk
      next-tables = l.rows next ∙ ap (λ (x : Rig). with_rows (tables x ts) k o.desk) next-rig

      acceptance : ◌≡◌ {A = Answer} (record { code = r.code; next = stored next ts' rows' r.count }) (played (stored g ts rows n) e)
      unfolding played settled accepted_state
      acceptance =
          let x = l.changes h in
          rw (named-same (in-range h), h) (λ j. record { code = l.code j; next = record { tables = next-tables j; list = x.1 j; count = x.0 j } })

    stepped : ◌≡◌ {A = Answer} (record { code = r.code; next = stored next ts' rows' r.count }) (played (stored g ts rows n) e)
    stepped = by_bool (eqb o.code 0) acceptance refusal

    -- with the index and the number of events as they are computed
    pub stepped-at : (j m : ℕ) → j ≡ i → m ≡ counted_on g.accepted r.code
        → ◌≡◌ {A = Answer} (record { code = r.code; next = stored (record { size = g.size; sets = g.sets; sites = set g.sites j r.site; arbiters = set g.arbiters j r.arbiter; accepted = m }) ts' rows' r.count }) (played (stored g ts rows n) e)
    stepped-at j m p q = rw (p, q) stepped
