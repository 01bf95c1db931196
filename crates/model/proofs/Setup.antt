-- What setup's acceptance says of the sets.
use Prim.Native.Nat.{ℕ, ◌≤◌, ◌<◌}
use mathlib.Core.Path.{◌≡◌, refl}
use mathlib.Core.Logic.{◌⊎◌, inl, inr}
use mathlib.Core.Bool.{Bool, true, false, not, cond}
use mathlib.Core.List.{List}
use native.Mathlib.Omega.{arith}
use lib.Dec.{eqb, leb}
use lib.ListN.{length}
use borrow.Author.Tests.{eqb-true, eqb-false, eq-eqb, leb-true, le-leb, lt-leb, not-false}
use Rattle.rig.specs.Limits.{site_limit}
use Rattle.model.specs.Setup.{size_listed, all_name, all_meet, all_minimal, each_code, meeting_code, setup_code}
use Rattle.basics.proofs.Basics.{by_bool, and_split, and_second}

-- what the codes 13, 1, 2 and 3 let pass: all that demand 3 needs of the sets
pub record Accepted (n : ℕ) (sets : List ℕ) : Type 0 where
  pub long : length sets ≡ site_limit
  pub low : 1 ≤ n
  pub high : n ≤ site_limit
  pub name : all_name n sets ≡ true
  pub meet : all_meet n sets ≡ true

-- a code that is not 0 comes only of its test
pub not-coded : (t : Bool) (c x : ℕ) → 1 ≤ c → cond t c x ≡ 0 → (t ≡ false) × (x ≡ 0)
not-coded true c x h e = absurd (omega arith)
not-coded false c x h e = (refl, e)

-- of two codes that are judged in turn neither is given
pub neither-given : (a b : ℕ) → cond (not (eqb a 0)) a b ≡ 0 → (a ≡ 0) × (b ≡ 0)
neither-given a b e = by_bool (eqb a 0) (λ t. (eqb-true a 0 t, rw t at e)) (λ t. absurd (eqb-false a 0 t (rw t at e)))

-- sets that setup accepts get none of the codes 13, 1, 2 and 3
pub setup-meeting : (n : ℕ) (sets : List ℕ) → setup_code n sets ≡ 0 → meeting_code n sets ≡ 0
unfolding setup_code
setup-meeting n sets e = (neither-given (meeting_code n sets) _ e).0

-- and none of them strictly contains another
pub setup-minimal : (n : ℕ) (sets : List ℕ) → setup_code n sets ≡ 0 → all_minimal n sets ≡ true
unfolding setup_code
setup-minimal n sets e = not-false _ (not-coded _ 17 _ (omega arith) (neither-given (meeting_code n sets) _ e).1).0

-- the other way round: sets that get none of these codes get 0, or 17 where one strictly contains another
pub meeting-setup : (n : ℕ) (sets : List ℕ) → meeting_code n sets ≡ 0 → setup_code n sets ≡ cond (all_minimal n sets) 0 17
unfolding setup_code
meeting-setup n sets e = by_bool (all_minimal n sets) (λ t. rw (e, t)) (λ t. rw (e, t))

pub zero-or-17 : (n : ℕ) (sets : List ℕ) → meeting_code n sets ≡ 0 → (setup_code n sets ≡ 0) ⊎ (setup_code n sets ≡ 17)
zero-or-17 n sets e =
    let w = meeting-setup n sets e in
    by_bool (all_minimal n sets) (λ t. inl (rw t at w)) (λ t. inr (rw t at w))

-- what is known where 13, 1 and 2 are not given
pub record Named (n : ℕ) (sets : List ℕ) : Type 0 where
  pub long : length sets ≡ site_limit
  pub low : 1 ≤ n
  pub high : n ≤ site_limit
  pub name : all_name n sets ≡ true

pub named : (n : ℕ) (sets : List ℕ) → each_code n sets ≡ 0 → Named n sets
unfolding each_code size_listed
named n sets e =
    let a = not-coded _ 13 _ (omega arith) e in
    let b = not-coded _ 1 _ (omega arith) a.1 in
    let c = not-coded _ 2 _ (omega arith) b.1 in
    let size = and_split (leb 1 n) (leb n site_limit) (not-false _ b.0) in
    record {
      long = eqb-true (length sets) site_limit (not-false _ a.0);
      low = leb-true 1 n size.0;
      high = leb-true n site_limit size.1;
      name = not-false _ c.0;
    }

-- and where 3 is not given either
pub meeting : (n : ℕ) (sets : List ℕ) → meeting_code n sets ≡ 0 → Accepted n sets
unfolding meeting_code
meeting n sets e =
    let w = neither-given (each_code n sets) _ e in
    let k = named n sets w.0 in
    record { long = k.long; low = k.low; high = k.high; name = k.name; meet = not-false _ (not-coded _ 3 _ (omega arith) w.1).0 }

pub accepts : (n : ℕ) (sets : List ℕ) → setup_code n sets ≡ 0 → Accepted n sets
accepts n sets e = meeting n sets (setup-meeting n sets e)

pub size-listed : (n : ℕ) → 1 ≤ n → n ≤ site_limit → size_listed n ≡ true
unfolding size_listed
size-listed n a b = rw (le-leb 1 n a, le-leb n site_limit b)

pub size-too-large : (n : ℕ) → site_limit < n → size_listed n ≡ false
unfolding size_listed
size-too-large n h = and_second (leb 1 n) (leb n site_limit) (lt-leb n site_limit h)

-- and the other way round
pub accepted-meeting : (n : ℕ) (sets : List ℕ) → Accepted n sets → meeting_code n sets ≡ 0
unfolding each_code meeting_code
accepted-meeting n sets a = rw (eq-eqb (length sets) site_limit a.long, size-listed n a.low a.high, a.name, a.meet)
