-- Where the sites of all sides stand, what a set takes, and "that two sets meet": those of sites (a1, b1, c1) and (a2, b2, c2) share site (a2, b2, c1).
use Prim.Native.Nat.{ℕ, ◌+◌, ◌-◌, ◌*◌, ◌/◌, ◌%◌, ◌≤◌, ◌<◌}
use mathlib.Core.Path.{◌≡◌, refl, sym, ◌∙◌}
use mathlib.Core.Bool.{Bool, true, ◌&&◌, ◌||◌}
use mathlib.Core.Logic.{⊎_elim}
use native.Mathlib.Nat.{mul-pos, mul_comm, add-mul, one-mul, mul-le-mul_right}
use native.Mathlib.Nat.{mod-lt, mod-mod, mod-eq_of_lt, div-add-mod', div-eq_of_lt, div-lt_iff_lt-mul, mul-add-div_right, mul-add-mod_self_right}
use native.Mathlib.Omega.{arith}
use lib.Dec.{eqb, leb}
use borrow.Author.Tests.{eq-eqb, eqb-true, le-leb, lt-leb, leb-false}
use Rattle.basics.proofs.Basics.{by_bool, clash, and_split, or-either, or-second, any_of, any_none}
use Rattle.family_sets.specs.Rule.{is_entry}
use Rattle.family_sets.specs.Meeting.{SiteTo, Common}
use Rattle.family_levels.specs.Levels.{levels_size, levels_width, levels_site, level_of, row_of, bay_of, levels_entry, in_levels}

module _ (a b c : ℕ) (rows : 1 ≤ a) (bays : 1 ≤ b) (levels : 1 ≤ c) where
  -- a level has a site
  level-pos : 1 ≤ a * b
  level-pos = mul-pos rows bays

  -- the place of a site on its level, from 1
  abbrev pub place : ℕ → ℕ
  place n = 1 + (n - 1) % (a * b)

  pub place-low : (n : ℕ) → SiteTo (a * b) (place n)
  place-low n = let l = mod-lt (n - 1) level-pos in (omega arith, omega arith)

  pub level-most : (n : ℕ) → SiteTo (levels_size a b c) n → SiteTo c (level_of a b n)
  level-most n h =
      let e = mul_comm (a * b) c in
      let l = (div-lt_iff_lt-mul {x = n - 1} {y = c} level-pos).1 (omega arith) in
      (omega arith, omega arith)

  -- the row and the bay of a site's place are its own
  abbrev pub site : ℕ → ℕ → ℕ
  site n l = levels_site a b (row_of a b n) (bay_of a b n) l

  at_place : (n m : ℕ) → levels_entry a b n (place m) ≡ site m (level_of a b n)
  unfolding levels_entry
  at_place n m =
      let e : 1 + (m - 1) % (a * b) - 1 ≡ (m - 1) % (a * b) = omega arith in
      rw (le-leb (place m) (a * b) (place-low m).1, e, mod-mod (m - 1) (a * b))

  at_level : (n l : ℕ) → 1 ≤ l → levels_entry a b n (a * b + l) ≡ site n l
  unfolding levels_entry
  at_level n l h =
      let e : a * b + l - a * b ≡ l = omega arith in
      rw (lt-leb (a * b + l) (a * b) (omega arith), e)

  -- the number of a site is its place behind the levels below
  pub site-number : (n l : ℕ) → site n l ≡ (l - 1) * (a * b) + place n
  site-number n l =
      let r : row_of a b n - 1 ≡ (n - 1) % (a * b) / b = omega arith in
      let e = div-add-mod' ((n - 1) % (a * b)) b in
      rw r (omega arith)

  site-in-range : (n l : ℕ) → SiteTo c l → SiteTo (levels_size a b c) (site n l)
  site-in-range n l h =
      let e = mul_comm (a * b) c in
      let p = place-low n in
      let m : (l - 1) * (a * b) ≤ (c - 1) * (a * b) = mul-le-mul_right (a * b) (omega arith) in
      let d : c - 1 + 1 ≡ c = omega arith in
      let k = rw (d, one-mul) at (add-mul (c - 1) 1 (a * b)) in
      rw (site-number n l) (omega arith, omega arith)

  -- the coordinates of the site at a place of a level
  site-below : (n l : ℕ) → 1 ≤ l → site n l - 1 ≡ (l - 1) * (a * b) + (n - 1) % (a * b)
  site-below n l h = let p = place-low n in rw (site-number n l) (omega arith)

  level-of-site : (n l : ℕ) → 1 ≤ l → level_of a b (site n l) ≡ l
  level-of-site n l h =
      let z = div-eq_of_lt (mod-lt (n - 1) level-pos) in
      rw (site-below n l h, mul-add-div_right level-pos (l - 1) ((n - 1) % (a * b)), z) (omega arith)

  place-of-site : (n l : ℕ) → 1 ≤ l → (site n l - 1) % (a * b) ≡ (n - 1) % (a * b)
  place-of-site n l h = rw (site-below n l h, mul-add-mod_self_right (l - 1) (a * b) ((n - 1) % (a * b))) (mod-mod (n - 1) (a * b))

  -- a site is the one at its own row, bay and level
  own-site : (n : ℕ) → 1 ≤ n → site n (level_of a b n) ≡ n
  own-site n h =
      let d : level_of a b n - 1 ≡ (n - 1) / (a * b) = omega arith in
      let e = div-add-mod' (n - 1) (a * b) in
      site-number n (level_of a b n) ∙ rw d (omega arith)

  pub sites-placed : (n : ℕ) → SiteTo (levels_size a b c) n
      → SiteTo a (row_of a b n) × SiteTo b (bay_of a b n) × SiteTo c (level_of a b n) × (site n (level_of a b n) ≡ n)
  sites-placed n h =
      let r = (div-lt_iff_lt-mul {x = (n - 1) % (a * b)} {y = a} bays).1 (mod-lt (n - 1) level-pos) in
      let s = mod-lt ((n - 1) % (a * b)) bays in
      ((omega arith, omega arith), (omega arith, omega arith), level-most n h, own-site n h.0)

  -- the site of the first level at a row and a bay
  module _ (row bay : ℕ) (h : SiteTo a row) (k : SiteTo b bay) where
    abbrev first : ℕ
    first = (row - 1) * b + bay

    bay-small : bay - 1 < b
    bay-small = omega arith

    first-place : (first - 1) % (a * b) ≡ (row - 1) * b + (bay - 1)
    first-place =
        let m : (row - 1) * b ≤ (a - 1) * b = mul-le-mul_right b (omega arith) in
        let d : a - 1 + 1 ≡ a = omega arith in
        let e = rw (d, one-mul) at (add-mul (a - 1) 1 b) in
        let f : first - 1 ≡ (row - 1) * b + (bay - 1) = omega arith in
        rw f (mod-eq_of_lt (omega arith))

    first-row : row_of a b first ≡ row
    first-row = rw (first-place, mul-add-div_right bays (row - 1) (bay - 1), div-eq_of_lt bay-small) (omega arith)

    first-bay : bay_of a b first ≡ bay
    first-bay = rw (first-place, mul-add-mod_self_right (row - 1) b (bay - 1), mod-eq_of_lt bay-small) (omega arith)

    pub places-numbered : (level : ℕ) → SiteTo c level
        → let n = levels_site a b row bay level in
        SiteTo (levels_size a b c) n × (row_of a b n ≡ row) × (bay_of a b n ≡ bay) × (level_of a b n ≡ level)
    places-numbered level l =
        let e : site first level ≡ levels_site a b row bay level = rw (first-row, first-bay) in
        let p = rw e at (place-of-site first level l.0) in
        (rw e at (site-in-range first level l), rw p first-row, rw p first-bay, rw e at (level-of-site first level l.0))

  module _ (n m : ℕ) (h : SiteTo (levels_size a b c) n) (k : SiteTo (levels_size a b c) m) where
    entered : (i : ℕ) → SiteTo (levels_width a b c) i → m ≡ levels_entry a b n i → in_levels a b c n m ≡ true
    unfolding is_entry
    entered i r e = any_of _ _ i r.0 r.1 (eq-eqb _ _ e)

    on-level : level_of a b m ≡ level_of a b n → in_levels a b c n m ≡ true
    on-level e =
        let p = place-low m in
        entered (place m) (p.0, omega arith) (sym (own-site m k.0) ∙ rw e (sym (at_place n m)))

    on-bay : row_of a b m ≡ row_of a b n → bay_of a b m ≡ bay_of a b n → in_levels a b c n m ≡ true
    on-bay e f =
        let q = level-most m k in
        entered (a * b + level_of a b m) (omega arith, omega arith) (sym (own-site m k.0) ∙ rw (e, f) (sym (at_level n (level_of a b m) q.0)))

    -- the sites that the words name
    abbrev named : Bool
    named = eqb (level_of a b m) (level_of a b n) || (eqb (row_of a b m) (row_of a b n) && eqb (bay_of a b m) (bay_of a b n))

    entry_named : (i : ℕ) → 1 ≤ i → m ≡ levels_entry a b n i → named ≡ true
    unfolding levels_entry
    entry_named i l e =
        by_bool (leb i (a * b))
        (λ t. let f : m ≡ site i (level_of a b n) = rw t at e in
        rw (f, level-of-site i (level_of a b n) (omega arith), eq-eqb (level_of a b n) (level_of a b n) refl))
        (λ t. let g = leb-false i (a * b) t in
        let f : m ≡ site n (i - a * b) = rw t at e in
        or-second (eqb (level_of a b m) (level_of a b n)) (eqb (row_of a b m) (row_of a b n) && eqb (bay_of a b m) (bay_of a b n))
        (rw (f, place-of-site n (i - a * b) (omega arith), eq-eqb (row_of a b n) (row_of a b n) refl, eq-eqb (bay_of a b n) (bay_of a b n) refl)))

    named-entered : named ≡ true → in_levels a b c n m ≡ true
    named-entered t =
        ⊎_elim
        (λ e. on-level (eqb-true _ _ e))
        (λ e. let s = and_split (eqb (row_of a b m) (row_of a b n)) (eqb (bay_of a b m) (bay_of a b n)) e in
        on-bay (eqb-true _ _ s.0) (eqb-true _ _ s.1))
        (or-either (eqb (level_of a b m) (level_of a b n)) (eqb (row_of a b m) (row_of a b n) && eqb (bay_of a b m) (bay_of a b n)) t)

    pub takes-level-and-bay : in_levels a b c n m ≡ named
    unfolding is_entry
    takes-level-and-bay =
        by_bool named
        (λ t. named-entered t ∙ sym t)
        (λ t. any_none _ _ (λ i l r. by_bool (eqb m (levels_entry a b n i)) (λ e. clash named (entry_named i l (eqb-true _ _ e)) t) (λ e. e)) ∙ sym t)

  pub levels-meet : (n m : ℕ) → SiteTo (levels_size a b c) n → SiteTo (levels_size a b c) m
      → Common (levels_size a b c) (is_entry (levels_entry a b) (levels_width a b c) n) (is_entry (levels_entry a b) (levels_width a b c) m)
  unfolding is_entry
  levels-meet n m h k =
      let l = level_of a b n in
      let p = place-low m in
      let q = level-most n h in
      record {
        site = site m l;
        in_range = site-in-range m l q;
        first = any_of _ _ (place m) p.0 (omega arith) (eq-eqb _ _ (sym (at_place n m)));
        second = any_of _ _ (a * b + l) (omega arith) (omega arith) (eq-eqb _ _ (sym (at_level m l q.0)));
      }
