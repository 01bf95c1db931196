-- Which field stands at which place among the fields of a state.
use Prim.Native.Nat.{ℕ, zero, suc, ◌+◌, ◌-◌, ◌*◌, ◌≤◌, ◌<◌}
use mathlib.Core.List.{List, [], ◌∷◌, ◌++◌, map}
use mathlib.Core.Path.{◌≡◌, refl, ◌∙◌}
use native.Mathlib.Nat.{mul-le-mul_left, mul-suc}
use native.Mathlib.Omega.{arith}
use lib.Dec.{eqb}
use lib.ListN.{length, drop, get_or, length-append, get_or-append}
use lib.Seq.{get_or-append-add, drop-append-add, drop-append_seam}
use borrow.Author.Tests.{eqb-true, eqb-false}
use Rattle.basics.proofs.Basics.{by_bool}
use Rattle.model.specs.Tables.{at}
use Rattle.model.specs.State.{Tables, Stored, under_way, size_of, sets_of}
use Rattle.save_lines.specs.Lines.{Field, field}
use Rattle.save_text.specs.Text.{Spelling, each_up_to, sites_field, set_field, accepted_field, fields_in}

-- what stands past the last field
abbrev pub no_field : Field
no_field = field [] []

-- place c of site k's w places is before those of site n + 1
place-below : (w k n c : ℕ) → k ≤ n → 1 ≤ k → c < w → w * (k - 1) + c < w * n
place-below w k n c l a h =
    let m : w * suc (k - 1) ≤ w * n = mul-le-mul_left w (omega arith) in
    omega (arith, mul-suc w (k - 1))

-- The fields of sites, of which each has w.
module _ (f : ℕ → List Field) (w : ℕ) (wide : (k : ℕ) → length (f k) ≡ w) where
  pub each-length : (n : ℕ) → length (each_up_to f n) ≡ w * n
  unfolding each_up_to
  each-length zero = omega arith
  each-length (suc n) = let l = each-length n in let e = wide (suc n) in simp length-append (omega arith)

  pub each_at : (n k c : ℕ) → 1 ≤ k → k ≤ n → c < w → get_or (each_up_to f n) (w * (k - 1) + c) no_field ≡ get_or (f k) c no_field
  unfolding each_up_to
  each_at zero k c a b h = absurd (omega arith)
  each_at (suc n) k c a b h =
      by_bool (eqb k (suc n))
      (λ e. let e' = eqb-true k (suc n) e in
      let p : k - 1 ≡ n = omega arith in
      rw (p, ← each-length n, get_or-append-add (each_up_to f n) (f (suc n)) c no_field, e'))
      (λ e. let l : k ≤ n = omega (arith, eqb-false k (suc n) e) in
      get_or-append (each_up_to f n) (f (suc n)) no_field (w * (k - 1) + c) (rw (each-length n) (place-below w k n c l a h)) ∙ each_at n k c a l h)

-- The fields of a state, in a spelling of v fields for a site and w for an arbiter.
module _ (spelling : Spelling) (v w : ℕ) (s : Stored)
    (sites : (k : ℕ) → length (spelling.site s.tables k) ≡ v) (arbiters : (j : ℕ) → length (spelling.arbiter s.tables j) ≡ w) where
  abbrev t : Tables
  t = s.tables

  abbrev n : ℕ
  n = size_of t

  abbrev set_fields : ℕ → List Field
  set_fields k = set_field (at 0 (sets_of t) k) ∷ []

  pub sites-at : get_or (fields_in spelling s) 0 no_field ≡ sites_field n
  unfolding fields_in
  sites-at = refl

  pub set_at : (k : ℕ) → 1 ≤ k → k ≤ n → get_or (fields_in spelling s) k no_field ≡ set_field (at 0 (sets_of t) k)
  unfolding fields_in
  set_at zero a b = absurd (omega arith)
  set_at (suc i) a b =
      let j : 1 * (suc i - 1) + 0 ≡ i = omega arith in
      get_or-append (each_up_to set_fields n) _ no_field i (rw (each-length set_fields 1 (λ x. refl) n) (omega arith))
      ∙ rw j at (each_at set_fields 1 (λ x. refl) n (suc i) 0 a b (omega arith))

  -- what stands behind the sets, and behind the line `accepted=`
  behind-sets : (i : ℕ) → get_or (fields_in spelling s) (suc (n + i)) no_field ≡ get_or (accepted_field t.rig.accepted ∷ (each_up_to (spelling.site t) n ++ (each_up_to (spelling.arbiter t) n ++ map spelling.message (under_way s)))) i no_field
  unfolding fields_in
  behind-sets i =
      let l : length (each_up_to set_fields n) ≡ n = each-length set_fields 1 (λ x. refl) n ∙ omega arith in
      rw l at (get_or-append-add (each_up_to set_fields n) (accepted_field t.rig.accepted ∷ (each_up_to (spelling.site t) n ++ (each_up_to (spelling.arbiter t) n ++ map spelling.message (under_way s)))) i no_field)

  pub accepted-at : get_or (fields_in spelling s) (suc n) no_field ≡ accepted_field t.rig.accepted
  accepted-at = let e : n + 0 ≡ n = omega arith in rw e at (behind-sets 0)

  behind-accepted : (i : ℕ) → get_or (fields_in spelling s) (n + 2 + i) no_field ≡ get_or (each_up_to (spelling.site t) n ++ (each_up_to (spelling.arbiter t) n ++ map spelling.message (under_way s))) i no_field
  behind-accepted i = let e : suc (n + suc i) ≡ n + 2 + i = omega arith in rw e at (behind-sets (suc i))

  pub site-at : (k c : ℕ) → 1 ≤ k → k ≤ n → c < v → get_or (fields_in spelling s) (n + 2 + (v * (k - 1) + c)) no_field ≡ get_or (spelling.site t k) c no_field
  site-at k c a b h =
      behind-accepted (v * (k - 1) + c)
      ∙ (get_or-append (each_up_to (spelling.site t) n) _ no_field (v * (k - 1) + c) (rw (each-length (spelling.site t) v sites n) (place-below v k n c b a h))
      ∙ each_at (spelling.site t) v sites n k c a b h)

  pub arbiter-at : (j c : ℕ) → 1 ≤ j → j ≤ n → c < w → get_or (fields_in spelling s) (n + 2 + (v * n + (w * (j - 1) + c))) no_field ≡ get_or (spelling.arbiter t j) c no_field
  arbiter-at j c a b h =
      behind-accepted (v * n + (w * (j - 1) + c))
      ∙ (rw (each-length (spelling.site t) v sites n) at (get_or-append-add (each_up_to (spelling.site t) n) (each_up_to (spelling.arbiter t) n ++ map spelling.message (under_way s)) (w * (j - 1) + c) no_field)
      ∙ (get_or-append (each_up_to (spelling.arbiter t) n) _ no_field (w * (j - 1) + c) (rw (each-length (spelling.arbiter t) w arbiters n) (place-below w j n c b a h))
      ∙ each_at (spelling.arbiter t) w arbiters n j c a b h))

  pub messages-behind : drop (n + 2 + (v * n + w * n)) (fields_in spelling s) ≡ map spelling.message (under_way s)
  unfolding fields_in
  messages-behind =
      let l : length (each_up_to set_fields n) ≡ n = each-length set_fields 1 (λ x. refl) n ∙ omega arith in
      let e : n + 2 + (v * n + w * n) ≡ suc (length (each_up_to set_fields n) + suc (length (each_up_to (spelling.site t) n) + length (each_up_to (spelling.arbiter t) n)))
      = rw (l, each-length (spelling.site t) v sites n, each-length (spelling.arbiter t) w arbiters n) (omega arith) in
      rw (
        e,
        drop-append-add (each_up_to set_fields n) _ (suc (length (each_up_to (spelling.site t) n) + length (each_up_to (spelling.arbiter t) n))),
        drop-append-add (each_up_to (spelling.site t) n) _ (length (each_up_to (spelling.arbiter t) n)),
        drop-append_seam (each_up_to (spelling.arbiter t) n) (map spelling.message (under_way s)),
      )
