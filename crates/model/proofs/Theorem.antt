-- Demand 3, for every run of the definitions.
use Prim.Native.Nat.{ℕ, zero, suc, ◌≤◌, ◌<◌}
use mathlib.Core.Path.{◌≡◌, refl, sym, ◌∙◌, ap, fun_ext}
use mathlib.Core.Logic.{◌≢◌}
use mathlib.Core.Bool.{Bool, true, false, not}
use mathlib.Core.List.{List, [], ◌∷◌, map}
use native.Mathlib.Omega.{arith}
use lib.Dec.{eqb}
use lib.ListN.{length, get_or, replicate, get_or-replicate}
use borrow.Author.Tests.{eqb-true, eqb-false, eq-eqb, ne_eqb, not-true}
use Rattle.basics.specs.Helpers.{count, tally, All}
use Rattle.basics.proofs.Basics.{by_bool, clash, and_split, any_of, any_none, count-any}
use Rattle.rig.specs.declared.Message.{Message}
use Rattle.rig.specs.declared.Event.{Event}
use Rattle.rig.specs.declared.Mode.{Mode}
use Rattle.rig.specs.declared.Site.{Site}
use Rattle.rig.specs.Limits.{site_limit, blank_row, blank_table}
use Rattle.protocol.specs.Message as M
use Rattle.protocol.specs.System.{System}
use Rattle.protocol.specs.Rig as R
use Rattle.protocol.specs.Claim as C
use Rattle.protocol.proofs.RigInvariant.{RigInvariant}
use Rattle.protocol.proofs.RigKept as K
use Rattle.protocol.proofs.Demand3 as D
use Rattle.model.specs.Tables.{at, cell}
use Rattle.model.specs.Setup.{setup_code, resting_site, free_arbiter, kept_sets, fresh_rig}
use Rattle.model.specs.State.{is_waiting, is_inside, failed_in, size_of, mode_of, fresh_tables, Stored, under_way}
use Rattle.model.specs.Run.{fresh, run, free_at, is_out, held_at, is_back, places, inside_count, waiting_count, stuck, Sound, Demand3}
use Rattle.model.specs.Losses.{Move, run_with_losses, SoundWithLosses}
use Rattle.model.proofs.Tables.{at_same, Square}
use Rattle.model.proofs.Setup.{Accepted, accepts}
use Rattle.model.proofs.Machine.{mode_number, ask_in, sent_of, rig_of, waits-same, inside-same, rig-path, sites-path, row-path}
use Rattle.model.proofs.Lawful.{system_from, lawful, kept-past, kept-accepted}
use Rattle.model.proofs.Shaped.{by_kind}
use Rattle.model.proofs.Reached.{Reached, run-reached, moves-reached}

-- The fresh state is the machine's

blank-row : (m i j : ℕ) → ◌≡◌ {A = ℕ} (at 0 (get_or (replicate m blank_row) i []) j) 0
unfolding at
blank-row zero i zero = refl
blank-row zero i (suc j) = refl
blank-row (suc m) zero j = at_same 0 site_limit j
blank-row (suc m) (suc i) j = blank-row m i j

pub blank-cell : (k j : ℕ) → cell blank_table k j ≡ 0
unfolding cell at
blank-cell zero zero = refl
blank-cell zero (suc j) = refl
blank-cell (suc i) j = blank-row site_limit i j

blank-columns : (k : ℕ) → 1 ≤ k → k ≤ site_limit → length (at [] blank_table k) ≡ site_limit
unfolding at
blank-columns zero a b = absurd (omega arith)
blank-columns (suc i) a b = ap length (get_or-replicate site_limit i blank_row [] b)

square-blank : Square site_limit blank_table
square-blank = record { rows = refl; columns = blank-columns }

pub fresh-same : (n : ℕ) (sets : List ℕ) → rig_of (fresh_tables n sets) [] ≡ R.fresh
unfolding fresh_tables fresh_rig R.fresh
fresh-same n sets =
    rig-path
    (sites-path
    (fun_ext (λ k. ap (λ (x : Site). mode_number x.mode) (at_same resting_site site_limit k)))
    (fun_ext (λ k. ap (λ (x : Site). ask_in x.mode) (at_same resting_site site_limit k)))
    (fun_ext (λ k. ap (λ (x : Site). failed_in x.mode) (at_same resting_site site_limit k))))
    (fun_ext (λ k. ap (λ (x : Site). x.clock) (at_same resting_site site_limit k)))
    (fun_ext (λ j. row-path (fresh_tables n sets) j free_arbiter (λ k. 0) (λ k. 0) (λ k. 0) (λ k. 0) (at_same free_arbiter site_limit j) (λ k. blank-cell j k) (λ k. blank-cell k j) (λ k. blank-cell k j) (λ k. blank-cell k j)))
    refl

pub fresh-reached : (n : ℕ) (sets : List ℕ) (list : List Message) → Accepted n sets → Reached n (kept_sets n sets) (fresh n sets list)
unfolding fresh fresh_tables fresh_rig R.run All tally
fresh-reached n sets list a = record {
  events = [];
  same = fresh-same n sets;
  counted = refl;
  size = refl;
  sets = refl;
  sized = record { size = a.high; sets = (kept-accepted n sets a).long; sites = refl; arbiters = refl; held = square-blank; heir = square-blank; inquired = square-blank; queued = square-blank };
  few = omega arith;
  bounded = omega arith;
  plain = tt;
}

-- a run of the definitions, and the family of its sets
pub run_of : (n : ℕ) (sets : List ℕ) (list : List Message) (es : List Event) → setup_code n sets ≡ 0 → Reached n (kept_sets n sets) (run (fresh n sets list) es)
run_of n sets list es e = run-reached n (kept_sets n sets) es (fresh n sets list) (fresh-reached n sets list (accepts n sets e))

-- and one in which fails lose their numbers
pub moves_of : (n : ℕ) (sets : List ℕ) (list : List Message) (moves : List Move) → setup_code n sets ≡ 0 → Reached n (kept_sets n sets) (run_with_losses (fresh n sets list) moves)
moves_of n sets list moves e = moves-reached n (kept_sets n sets) moves (fresh n sets list) (fresh-reached n sets list (accepts n sets e))

-- The counts of the definitions are the machine's

eqb-turn : (a b : ℕ) → eqb a b ≡ eqb b a
eqb-turn a b = by_bool (eqb a b) (λ e. rw e (sym (eq-eqb b a (sym (eqb-true a b e))))) (λ e. rw e (sym (ne_eqb b a (λ q. eqb-false a b e (sym q)))))

out-same : (j : ℕ) (ms : List Message) → tally (is_out j) ms ≡ tally M.is_out (R.messages_of j (map sent_of ms))
unfolding tally is_out R.messages_of
out-same j [] = refl
out-same j (m ∷ ms) =
    let ih = out-same j ms in
    by_kind m.kind
    (λ e. rw (e, ih) (by_bool (eqb j m.to) (λ f. rw f) (λ f. rw f)))
    (λ e. rw (e, ih, eqb-turn m.about j) (by_bool (eqb j m.about) (λ f. rw f) (λ f. rw f)))
    (λ e. rw (e, ih) (by_bool (eqb j m.to) (λ f. by_bool (eqb m.about 0) (λ g. rw (f, g)) (λ g. rw (f, g))) (λ f. rw f)))
    (λ e. rw (e, ih) (by_bool (eqb j m.from) (λ f. rw f) (λ f. rw f)))
    (λ e. rw (e, ih) (by_bool (eqb j m.from) (λ f. rw f) (λ f. rw f)))
    (λ e. rw (e, ih) (by_bool (eqb j m.to) (λ f. rw f) (λ f. rw f)))
    (λ e. rw (e, ih) (by_bool (eqb j m.from) (λ f. rw f) (λ f. rw f)))
    (λ n1 n2 n3 n4 n5 n6 n7. rw (ne_eqb _ _ n1, ne_eqb _ _ n2, ne_eqb _ _ n3, ne_eqb _ _ n4, ne_eqb _ _ n5, ne_eqb _ _ n6, ih) (by_bool (eqb j m.from) (λ f. rw f) (λ f. rw f)))

back-same : (j : ℕ) (ms : List Message) → tally (is_back j) ms ≡ tally M.is_back (R.messages_of j (map sent_of ms))
unfolding tally is_back R.messages_of
back-same j [] = refl
back-same j (m ∷ ms) =
    let ih = back-same j ms in
    let turn = eqb-turn m.to j in
    by_kind m.kind
    (λ e. rw (e, ih) (by_bool (eqb j m.to) (λ f. rw f) (λ f. rw f)))
    (λ e. rw (e, ih) (by_bool (eqb j m.about) (λ f. rw f) (λ f. rw f)))
    (λ e. rw (e, ih, turn) (by_bool (eqb j m.to) (λ f. by_bool (eqb m.about 0) (λ g. rw (f, g)) (λ g. rw (f, g))) (λ f. by_bool (eqb m.about 0) (λ g. rw (f, g)) (λ g. rw (f, g)))))
    (λ e. rw (e, ih) (by_bool (eqb j m.from) (λ f. rw f) (λ f. rw f)))
    (λ e. rw (e, ih) (by_bool (eqb j m.from) (λ f. rw f) (λ f. rw f)))
    (λ e. rw (e, ih, turn) (by_bool (eqb j m.to) (λ f. rw f) (λ f. rw f)))
    (λ e. rw (e, ih) (by_bool (eqb j m.from) (λ f. rw f) (λ f. rw f)))
    (λ n1 n2 n3 n4 n5 n6 n7. rw (ne_eqb _ _ n1, ne_eqb _ _ n2, ne_eqb _ _ n3, ne_eqb _ _ n4, ne_eqb _ _ n5, ne_eqb _ _ n6, ih) (by_bool (eqb j m.from) (λ f. rw f) (λ f. rw f)))

-- How many of the sites 1 to n pass

none_pass : (p : ℕ → Bool) (n : ℕ) → count p n ≡ 0 → (k : ℕ) → 1 ≤ k → k ≤ n → p k ≡ false
none_pass p n e k a b = by_bool (p k) (λ t. clash (eqb (count p n) 0) (eq-eqb (count p n) 0 e) (count-any p n ∙ ap not (any_of p n k a b t))) (λ t. t)

none_passes : (p : ℕ → Bool) (n : ℕ) → ((k : ℕ) → 1 ≤ k → k ≤ n → p k ≡ false) → count p n ≡ 0
none_passes p n h = eqb-true (count p n) 0 (count-any p n ∙ ap not (any_none p n h))

one_passes : (p : ℕ → Bool) (n : ℕ) → ((k m : ℕ) → p k ≡ true → p m ≡ true → k ≡ m) → count p n ≤ 1
unfolding count
one_passes p zero h = omega arith
one_passes p (suc n) h =
    by_bool (p (suc n))
    (λ t. rw (t, none_passes p n (λ k a b. by_bool (p k) (λ u. let q = h k (suc n) u t in absurd (omega arith)) (λ u. u))) (omega arith))
    (λ t. rw t (one_passes p n h))

is-two : (m : Mode) → is_inside m ≡ true → mode_number m ≡ 2
is-two m e = eqb-true (mode_number m) 2 (inside-same m ∙ e)

is_one : (m : Mode) → is_waiting m ≡ true → mode_number m ≡ 1
is_one m e = eqb-true (mode_number m) 1 (waits-same m ∙ e)

module _ (n : ℕ) (l : List ℕ) (a : Accepted n l) (past : (k : ℕ) → n < k → at 0 l k ≡ 0) (s : Stored) (r : Reached n l s) where
  abbrev y : System
  y = system_from n l

  -- the invariant and the soundness of the machine's state
  pub invariant : RigInvariant y (rig_of s.tables (under_way s))
  invariant = rw r.same (K.reached y (lawful n l a past) r.events)

  machine-sound : C.Sound y (rig_of s.tables (under_way s))
  machine-sound = rw r.same (D.run_sound y (lawful n l a past) r.events)

  -- a site that is inside is one of 1 to n
  nobody : ((k : ℕ) → 1 ≤ k → k ≤ n → is_inside (mode_of s.tables k) ≡ false) → (k : ℕ) → mode_number (mode_of s.tables k) ≢ 2
  nobody h k e =
      let w = invariant.in_range k (λ z. let x : ◌≡◌ {A = ℕ} 2 0 = sym e ∙ z in omega arith) in
      clash (is_inside (mode_of s.tables k)) (sym (inside-same (mode_of s.tables k)) ∙ eq-eqb _ 2 e) (h k w.0 w.1)

  not_stuck : stuck s ≡ false
  unfolding stuck inside_count waiting_count
  not_stuck = by_bool (stuck s)
      (λ e. let p = and_split (eqb s.count 0) _ e in
      let q = and_split (eqb (inside_count s.tables.rig) 0) (not (eqb (waiting_count s.tables.rig) 0)) p.1 in
      let c = eqb-true s.count 0 p.0 in
      let idle : (R.Rig.under_way (rig_of s.tables (under_way s))) ≡ [] = rw c in
      let calm = machine-sound.not_stuck idle (nobody (λ k b d. none_pass _ (size_of s.tables) (eqb-true _ 0 q.0) k b (rw r.size d))) in
      absurd (eqb-false (waiting_count s.tables.rig) 0 (not-true _ q.1) (none_passes _ (size_of s.tables) (λ k b d. by_bool (is_waiting (mode_of s.tables k)) (λ t. absurd (calm k (is_one (mode_of s.tables k) t))) (λ t. t)))))
      (λ e. e)

  sound : Sound s
  unfolding inside_count places free_at held_at
  sound = record {
    exclusion = one_passes _ (size_of s.tables) (λ k m e f. machine-sound.exclusion k m (is-two (mode_of s.tables k) e) (is-two (mode_of s.tables m) f));
    one_place = λ j b c. rw (out-same j (under_way s), back-same j (under_way s), r.size) (machine-sound.one_place j);
    not_stuck = not_stuck;
  }

-- of a state of these sets
reached-sound : (n : ℕ) (sets : List ℕ) (s : Stored) → setup_code n sets ≡ 0 → Reached n (kept_sets n sets) s → Sound s
reached-sound n sets s e r = let a = accepts n sets e in sound n (kept_sets n sets) (kept-accepted n sets a) (kept-past n sets a) s r

-- DEMAND 3
pub demand3 : Demand3
unfolding Demand3
demand3 n sets list es e = reached-sound n sets _ e (run_of n sets list es e)

pub sound-with-losses : SoundWithLosses
unfolding SoundWithLosses
sound-with-losses n sets list moves e = reached-sound n sets _ e (moves_of n sets list moves e)
