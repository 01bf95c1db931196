-- A fail names an ask that its receiver has made, and one for an ask that is over changes nothing.
use Prim.Native.Nat.{ℕ, suc, ◌+◌, ◌≤◌}
use mathlib.Core.Path.{◌≡◌, refl, sym, ◌∙◌, ap, subst}
use mathlib.Core.Logic.{◌≢◌, ⊎_elim}
use mathlib.Core.Bool.{Bool, true, false, ◌&&◌}
use mathlib.Core.List.{List, [], ◌∷◌, ◌++◌, map, append-nil, append_assoc}
use mathlib.Core.Option.{some}
use native.Mathlib.Omega.{arith}
use lib.Dec.{eqb}
use lib.ListN.{length}
use borrow.Author.Tests.{eqb-false, ne_eqb, le-leb}
use Rattle.basics.specs.Helpers.{first, without_first, All}
use Rattle.basics.proofs.Basics.{by_bool, update_same}
use Rattle.rig.specs.declared.Event.{Event}
use Rattle.rig.specs.declared.Event.TheVariants.{Ask, Leave, Deliver}
use Rattle.rig.specs.declared.Message.{Message}
use Rattle.rig.specs.Limits.{message_limit}
use Rattle.rig.specs.Messages.{FAIL}
use Rattle.protocol.specs.System.{System, Lawful}
use Rattle.protocol.specs.Rig as R
use Rattle.protocol.proofs.Named.{SentNamed, RigNamed, fresh-named, step-named, Asked}
use Rattle.protocol.proofs.Later.{Over, step-clock, step-over}
use Rattle.model.specs.Setup.{setup_code, kept_sets}
use Rattle.model.specs.State.{Tables, Stored, under_way, size_of, in_range, is_resting, is_waiting, seq_in, site_of, mode_of, desk_of, with_desk}
use Rattle.model.specs.Desk.{effect}
use Rattle.model.specs.Site.{fail_counts, on_fail}
use Rattle.model.specs.Deliver.{between, delivered}
use Rattle.model.specs.Shape.{well_shaped}
use Rattle.model.specs.Event.{actor, sites_named, taken_off, attempt, attempted, effect_code, judged, event_at, accepted_state, settled, played, tested, event}
use Rattle.model.specs.Run.{fresh, run}
use Rattle.model.specs.Fails.{Made, FailsName, only_taken_off, OldFailsIdle}
use Rattle.model.proofs.Tables.{put_self}
use Rattle.model.proofs.Setup.{accepts}
use Rattle.model.proofs.Lawful.{system_from, lawful, kept-past, kept-accepted}
use Rattle.model.proofs.Machine.{sent_of, rests-same}
use Rattle.model.proofs.Shaped.{within}
use Rattle.model.proofs.Reached.{machine_of, step_of, Reached, event-answered, event-reached, run-append}
use Rattle.model.proofs.Theorem.{fresh-same, fresh-reached, run_of}

-- what every step of the machine keeps is kept in a run
module _ (n : ℕ) (l : List ℕ) (P : R.Rig → Type 0) (kept : (r : R.Rig) (e : R.Event) → P r → P (R.step (system_from n l) r e)) where
  event-keeps : (s : Stored) (e : Event) → Reached n l s → P (machine_of s) → P (machine_of (event s e).next)
  event-keeps s e r h = ⊎_elim (λ c. rw c.1 (kept (machine_of s) (step_of e) h)) (λ c. rw c.1 h) (event-answered n l s e r)

  run-keeps : (es : List Event) (s : Stored) → Reached n l s → P (machine_of s) → P (machine_of (run s es))
  unfolding run
  run-keeps [] s r h = h
  run-keeps (e ∷ es) s r h = run-keeps es (event s e).next (event-reached n l s e r) (event-keeps s e r h)

-- Fails name asks

module _ (n : ℕ) (sets : List ℕ) (list : List Message) (es : List Event) (e : setup_code n sets ≡ 0) where
  abbrev start : Stored
  start = fresh n sets list

  abbrev l : List ℕ
  l = kept_sets n sets

  -- site k has made an ask with number x
  abbrev Has : ℕ → ℕ → Type 0
  Has k x = Made start es k x

  law : Lawful (system_from n l)
  law = let a = accepts n sets e in lawful n l (kept-accepted n sets a) (kept-past n sets a)

  -- the events are those done, one, and the rest
  asked : (done rest : List Event) (x : Event) → es ≡ done ++ x ∷ rest → (event (run start done) x).code ≡ 0 → Asked Has (machine_of (run start done)) (step_of x)
  asked done rest (Ask k) q c = record { earlier = done; later = rest; whole = q; asks = record { accepted = c; number = add-one (site_of (run start done).tables k).clock } }
    where
      add-one : (c : ℕ) → c + 1 ≡ suc c
      add-one c = omega arith
  asked done rest (Leave k) q c = tt
  asked done rest (Deliver a b) q c = tt

  named-run : (done rest : List Event) → es ≡ done ++ rest → Reached n l (run start done) → RigNamed Has (machine_of (run start done)) → RigNamed Has (machine_of (run start es))
  unfolding run
  named-run done [] q r h = subst (λ (z : List Event). RigNamed Has (machine_of (run start z))) (sym (q ∙ append-nil done)) h
  named-run done (x ∷ rest) q r h =
      let more = run-append start done (x ∷ []) in
      let next = event-reached n l (run start done) x r in
      named-run (done ++ x ∷ []) rest (q ∙ sym (append_assoc done (x ∷ []) rest)) (rw more next)
      (rw more (⊎_elim
      (λ c. rw c.1 (step-named Has (system_from n l) law (machine_of (run start done)) (step_of x) (asked done rest x q c.0) h))
      (λ c. rw c.1 h)
      (event-answered n l (run start done) x r)))

  each-named : (ms : List Message) → All (SentNamed Has) (map sent_of ms) → All (λ m. m.kind ≡ FAIL → Has m.to m.number) ms
  unfolding All
  each-named [] a = tt
  each-named (m ∷ ms) a = (λ k. rw k at a.0, each-named ms a.1)

pub fails-name : FailsName
unfolding FailsName run fresh
fails-name n sets list es e =
    let r = fresh-reached n sets list (accepts n sets e) in
    let h : RigNamed (Made (fresh n sets list) es) (machine_of (fresh n sets list)) = rw (fresh-same n sets) (fresh-named _) in
    each-named n sets list es e _ (named-run n sets list es e [] es refl r h).under_way

-- An ask that is over

-- an ask that is accepted comes from a site at rest
asked-rests : (s : Stored) (k : ℕ) → (event s (Ask k)).code ≡ 0 → (in_range (size_of s.tables) k ≡ true) × (is_resting (mode_of s.tables k) ≡ true)
unfolding event tested played event_at attempted attempt judged settled sites_named actor desk_of
asked-rests s k c =
    by_bool (eqb (length s.list) message_limit)
    (λ a. by_bool (well_shaped s)
    (λ b. by_bool (in_range (size_of s.tables) k)
    (λ i. by_bool (is_resting (mode_of s.tables k))
    (λ f. (i, f))
    (λ f. let x : ◌≡◌ {A = ℕ} 5 0 = rw (a, b, i, f) at c in absurd (omega arith)))
    (λ i. let x : ◌≡◌ {A = ℕ} 4 0 = rw (a, b, i) at c in absurd (omega arith)))
    (λ b. let x : ◌≡◌ {A = ℕ} 10 0 = rw (a, b) at c in absurd (omega arith)))
    (λ a. let x : ◌≡◌ {A = ℕ} 13 0 = rw a at c in absurd (omega arith))

-- and has raised the clock
asked-clock : (n : ℕ) (l : List ℕ) (s : Stored) (k : ℕ) → Reached n l s → (event s (Ask k)).code ≡ 0 → suc (site_of s.tables k).clock ≤ (machine_of (event s (Ask k)).next).clock k
unfolding R.step R.asked
asked-clock n l s k r c =
    let h = asked-rests s k c in
    let b = within (size_of s.tables) k h.0 in
    let hi : k ≤ n = omega (arith, b.1, r.size) in
    ⊎_elim
    (λ a. let same = ap (λ (x : R.Rig). x.clock k) a.1 in
    let high : suc (site_of s.tables k).clock ≤ (R.step (system_from n l) (machine_of s) (R.ask k)).clock k =
    rw (le-leb 1 k b.0, le-leb k n hi, rests-same (mode_of s.tables k), h.1, update_same (λ (i : ℕ). (site_of s.tables i).clock) k) (omega arith) in
    omega arith)
    (λ a. absurd (a.0 c))
    (event-answered n l s (Ask k) r)

same-desk : (t : Tables) (k : ℕ) → with_desk t k (desk_of t k) ≡ t
unfolding with_desk desk_of
same-desk t k = rw (put_self _ t.rig.sites k, put_self _ t.rig.arbiters k, put_self [] t.held k, put_self [] t.heir k, put_self [] t.inquired k, put_self [] t.queued k)

-- a message that does nothing
idle-delivery : (s : Stored) (a b : ℕ) (m : Message) → first (between a b) (under_way s) ≡ some m → delivered (desk_of s.tables b) m ≡ effect (desk_of s.tables b) []
    → (event s (Deliver a b)).code ≡ 0 → (event s (Deliver a b)).next ≡ only_taken_off s a b
unfolding event tested played event_at attempted attempt taken_off judged settled actor only_taken_off accepted_state
idle-delivery s a b m f d c =
    let rest = without_first (between a b) (under_way s) in
    by_bool (eqb (length s.list) message_limit)
    (λ h. by_bool (well_shaped s)
    (λ w. by_bool (sites_named (desk_of s.tables b).size (Deliver a b))
    (λ i. by_bool (eqb (effect_code s.tables.rig.accepted (effect (desk_of s.tables b) []) rest) 0)
    (λ z. rw (h, w, i, f, d, z, same-desk s.tables b, append-nil rest))
    (λ z. absurd (eqb-false _ 0 z (rw (h, w, i, f, d, z) at c))))
    (λ i. let x : ◌≡◌ {A = ℕ} 4 0 = rw (h, w, i) at c in absurd (omega arith)))
    (λ w. let x : ◌≡◌ {A = ℕ} 10 0 = rw (h, w) at c in absurd (omega arith)))
    (λ h. let x : ◌≡◌ {A = ℕ} 13 0 = rw h at c in absurd (omega arith))

-- a fail for an ask that is over does not count
over-idle : (y : System) (s : Stored) (k x : ℕ) → x ≢ 0 → Over y k x (machine_of s) → fail_counts (desk_of s.tables k) x ≡ false
unfolding fail_counts desk_of
over-idle y s k x nz o =
    let q = seq_in (mode_of s.tables k) in
    let ne : x ≢ q = λ z. let w = o.ask (λ u. nz (z ∙ u)) in omega arith in
    rw (ne_eqb x 0 nz, ne_eqb x q ne) (neither (is_waiting (mode_of s.tables k)))
  where
    neither : (b : Bool) → b && false ≡ false
    neither true = refl
    neither false = refl

pub old-fails-idle : OldFailsIdle
unfolding OldFailsIdle run delivered on_fail
old-fails-idle n sets list earlier es later k x e asks idle a m f kind number c =
    let start = fresh n sets list in
    let l = kept_sets n sets in
    let y = system_from n l in
    let first-state = run start earlier in
    let r1 = run_of n sets list earlier e in
    let low : x ≤ (machine_of (event first-state (Ask k)).next).clock k = rw (← asks.number) (let w = asked-clock n l first-state k r1 asks.accepted in omega arith) in
    let r2 = event-reached n l first-state (Ask k) r1 in
    let second = run (event first-state (Ask k)).next es in
    let split : run start (earlier ++ Ask k ∷ es) ≡ second = run-append start earlier (Ask k ∷ es) in
    let low2 = run-keeps n l (λ r. x ≤ r.clock k) (step-clock y k x) es _ r2 low in
    let o2 : Over y k x (machine_of second) = record { clock = low2; ask = λ z. absurd (z (rw split at idle)) } in
    let r3 : Reached n l second = rw (← split) (run_of n sets list (earlier ++ Ask k ∷ es) e) in
    let all : run start (earlier ++ Ask k ∷ (es ++ later)) ≡ run second later = run-append start earlier (Ask k ∷ (es ++ later)) ∙ run-append (event first-state (Ask k)).next es later in
    let o3 = run-keeps n l (Over y k x) (step-over y k x) later second r3 o2 in
    let s = run start (earlier ++ Ask k ∷ (es ++ later)) in
    let o4 : Over y k x (machine_of s) = rw all o3 in
    let nz : x ≢ 0 = λ z. let w = asks.number in omega arith in
    idle-delivery s a k m f (rw (kind, number, over-idle y s k x nz o4)) c
